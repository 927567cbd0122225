use Rattle.std.proofs.Common.{◌≡◌, ◌++◌, map}
use Rattle.std.specs.List.{All}
use Rattle.nvm_plan.specs.Ready.{IsPlan}
use Rattle.nvm_calling.proofs.plan.planned_jobs.Given as goal

-- The jobs so far and those that are left are all, and each so far has its plan.
abbrev pub invariant-loop-job : goal.invariant-loop-job
invariant-loop-job l = record {
  jobs : map (λ p. p.job) l.planned.items ++ l.job-iterator.rest.items ≡ l.initial.job-iterator.rest.items;
  plans : All (λ p. IsPlan l.geometry p.job p.plan) l.planned.items;
}
