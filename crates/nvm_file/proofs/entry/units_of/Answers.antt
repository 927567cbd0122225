use Rattle.std.proofs.Common.{rules}
use Rattle.nvm_file.specs.EntryReading.{history_at}
use Rattle.nvm_file.specs.Reading.{units_at}
use Rattle.nvm_file.proofs.ItemLoops.{views_given}
use Rattle.nvm_file.proofs.entry.units_of.Goals as goal

pub returns : goal.returns
unfolding units_at
returns c = rw (← c.units-count.ensures.value) (
    views_given (λ history. history.items) (history_at c.args.frame.now) c.units-count.result c.args.from c.items_of.result c.items_of.ensures
    (λ place rest one few met. search rules))
