use Rattle.std.proofs.Common.{◌≡◌, take}
use Rattle.std.specs.List.{count_by}
use Rattle.nvm_audit.specs.Verdict.{has_refusal}
use Rattle.nvm_audit.proofs.counts.refused_in_work.Given as goal

abbrev pub invariant-loop-done : goal.invariant-loop-done
invariant-loop-done l = l.refused ≡ count_by (λ d. has_refusal d.statuses) (take l.done-index l.work.items)
