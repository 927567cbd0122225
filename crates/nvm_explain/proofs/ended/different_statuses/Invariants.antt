use Rattle.std.proofs.Common.{◌≡◌, ◌+◌, ◌++◌, drop, map}
use Rattle.nvm_explain.specs.Ended.{all_statuses, different_statuses}
use Rattle.nvm_explain.proofs.Telling.{met_and_left}
use Rattle.nvm_explain.proofs.ended.different_statuses.Given as goal

-- the statuses that were met, and those that are left of this worker and of those after it, are all
abbrev pub invariant-loop-it : goal.invariant-loop-it
invariant-loop-it l =
    met_and_left l.met.items (map (λ d. d.statuses) (drop l.it-index l.it-items)
    ++ all_statuses (map (λ work. work.items) (drop (l.work-index + 1) l.done)))
    ≡ different_statuses (map (λ work. work.items) l.done)

-- the statuses that were met, and those of the workers that are left, are all
abbrev pub invariant-loop-work : goal.invariant-loop-work
invariant-loop-work l =
    met_and_left l.met.items (all_statuses (map (λ work. work.items) (drop l.work-index l.done)))
    ≡ different_statuses (map (λ work. work.items) l.done)
