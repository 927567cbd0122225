use Rattle.std.proofs.Common.{ℕ, ◌<◌, [], ◌∷◌, length}
use Rattle.std.specs.List.{AllByRecursion}
use Rattle.nvm_audit.specs.Inside.Occurrences.{AreCounted}
use Rattle.nvm_audit.specs.RecordChecks.{job_done, job_once, Passes}
use Rattle.nvm_audit.specs.RecordView.{RecordView}
use Rattle.nvm_audit.proofs.occurrences.count_fault.Given as goal

abbrev pub invariant-loop-number : goal.invariant-loop-number
invariant-loop-number l =
    (r : RecordView) → AreCounted (length r.jobs) r.done l.found.items → (k : ℕ) → k < l.number
    → AllByRecursion (Passes r) (job_done k ∷ job_once k ∷ [])
