use Rattle.std.proofs.Common.{rules}
use Rattle.nvm_file.specs.DoneReading.{work_at}
use Rattle.nvm_file.specs.Reading.{workers_at}
use Rattle.nvm_file.proofs.ItemLoops.{views_given}
use Rattle.nvm_file.proofs.done_job.workers_of.Goals as goal

pub returns : goal.returns
unfolding workers_at
returns c =
    views_given (λ work. work.items) (λ _. work_at c.args.frame.now c.args.jobs.now) c.args.frame.now.workers c.args.from c.items_of.result c.items_of.ensures
    (λ place rest one few met. search rules)
