use Rattle.std.proofs.Common.{◌≡◌, ℕ, ◌<◌, length, map, take}
use Rattle.nvm_audit.specs.Inside.Occurrences.{IsCounted}
use Rattle.nvm_audit.specs.LawfulRecord.{times_done}
use Rattle.nvm_audit.proofs.occurrences.occurrences.Given as goal

abbrev pub invariant-loop-work : goal.invariant-loop-work
invariant-loop-work l = record {
  long : length l.found.items ≡ l.jobs;
  each : (number : ℕ) → number < l.jobs
      → IsCounted (map (λ work. work.items) l.done.items) l.found.items number
      (times_done number (take l.work-index (map (λ work. work.items) l.done.items)));
}
