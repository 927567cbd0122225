use Rattle.nvm_explain.proofs.Few.{few_jobs, known_workers}
use Rattle.nvm_explain.proofs.summary.push_summary.Goals as goal

pub push_ended-requires-clause-jobs : goal.push_ended-requires-clause-jobs
push_ended-requires-clause-jobs c = rw c.deref.ensures.value (few_jobs c.run.inside c.run.invariant)

pub worker_counts-requires : goal.worker_counts-requires
worker_counts-requires c = rw c.deref-3.ensures.value (known_workers c.run.inside c.run.invariant)
