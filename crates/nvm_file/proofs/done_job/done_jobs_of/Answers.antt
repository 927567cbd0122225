use Rattle.std.proofs.Common.{rules}
use Rattle.nvm_file.specs.DoneReading.{done_at}
use Rattle.nvm_file.proofs.ItemLoops.{items_given}
use Rattle.nvm_file.proofs.done_job.done_jobs_of.Goals as goal

pub returns : goal.returns
returns c =
    items_given (λ _. done_at c.args.frame.now c.args.jobs.now) c.args.count c.args.from c.items_of.result c.items_of.ensures
    (λ place rest one few met. search rules)
