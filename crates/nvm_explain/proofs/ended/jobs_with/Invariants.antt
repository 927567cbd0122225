use Rattle.std.proofs.Common.{◌≡◌, ◌+◌, ◌*◌, ◌≤◌, drop, map}
use Rattle.std.specs.List.{count_by, fold}
use Rattle.nvm_audit.specs.Recordable.{most_jobs}
use Rattle.nvm_explain.specs.Ended.{jobs_with, same_statuses}
use Rattle.nvm_explain.proofs.ended.jobs_with.Given as goal

-- the jobs so far and those of the workers that are left are all, and each worker did few
abbrev pub invariant-loop-work : goal.invariant-loop-work
invariant-loop-work l =
    (fold (λ jobs work. jobs + count_by (λ d. same_statuses d.statuses l.statuses) work) l.jobs
    (map (λ work. work.items) (drop l.work-index l.done))
    ≡ jobs_with l.statuses (map (λ work. work.items) l.done))
    × (l.jobs ≤ l.work-index * most_jobs)
