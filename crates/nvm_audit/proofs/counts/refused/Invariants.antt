use Rattle.std.proofs.Common.{◌≡◌, ◌*◌, ◌≤◌, map, take}
use Rattle.nvm_audit.specs.Recordable.{most_jobs}
use Rattle.nvm_audit.specs.Verdict.{refused_jobs}
use Rattle.nvm_audit.proofs.counts.refused.Given as goal

abbrev pub invariant-loop-work : goal.invariant-loop-work
invariant-loop-work l = record {
  is : l.refused ≡ refused_jobs (take l.work-index (map (λ work. work.items) l.done.items));
  few : l.refused ≤ l.work-index * most_jobs;
}
