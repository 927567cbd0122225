use Rattle.std.proofs.Common.{rules}
use Rattle.nvm_file.specs.EntryReading.{range_in}
use Rattle.nvm_file.proofs.ItemLoops.{items_given}
use Rattle.nvm_file.proofs.act.ranges_of.Goals as goal

pub returns : goal.returns
returns c =
    items_given (λ _. range_in c.args.total c.args.place.now) c.args.count c.args.from c.items_of.result c.items_of.ensures
    (λ place rest one few met. search rules)
