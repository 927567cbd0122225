use Rattle.std.proofs.Common.{ℕ, ◌<◌}
use Rattle.nvm_trace.specs.Inside.Matching.{IsPreparedAt}
use Rattle.nvm_trace.proofs.matching.first_unprepared.Given as goal

abbrev pub invariant-loop-number : goal.invariant-loop-number
invariant-loop-number l = (k : ℕ) → k < l.number → IsPreparedAt l.start l.first l.jobs.items k
