use Rattle.std.proofs.Common.{rules}
use Rattle.nvm_file.specs.EntryReading.{entry_at}
use Rattle.nvm_file.proofs.ItemLoops.{items_given}
use Rattle.nvm_file.proofs.entry.entries_of.Goals as goal

pub returns : goal.returns
returns c =
    items_given (λ _. entry_at c.args.frame.now c.args.place.now) c.args.count c.args.from c.items_of.result c.items_of.ensures
    (λ place rest one few met. search rules)
