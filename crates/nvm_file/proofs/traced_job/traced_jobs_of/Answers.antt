use Rattle.std.proofs.Common.{rules}
use Rattle.nvm_file.specs.TracedJobReading.{traced_at}
use Rattle.nvm_file.proofs.ItemLoops.{items_given}
use Rattle.nvm_file.proofs.traced_job.traced_jobs_of.Goals as goal

pub returns : goal.returns
returns c =
    items_given (λ _. traced_at c.args.scope.now) c.args.count c.args.from c.items_of.result c.items_of.ensures
    (λ place rest one few met. search rules)
