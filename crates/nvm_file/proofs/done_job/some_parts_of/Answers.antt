use Rattle.std.proofs.Common.{rules}
use Rattle.nvm_file.specs.DoneReading.{part_at}
use Rattle.nvm_file.proofs.ItemLoops.{items_given}
use Rattle.nvm_file.proofs.done_job.some_parts_of.Goals as goal

pub returns : goal.returns
returns c =
    items_given (λ _. part_at c.args.frame.now) c.args.count c.args.from c.items_of.result c.items_of.ensures
    (λ place rest one few met. search rules)
