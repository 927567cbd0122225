use Rattle.std.proofs.Common.{◌≡◌, ℕ, ◌<◌}
use Rattle.nvm_record.specs.Ranges.{range_at}
use Rattle.nvm_store.proofs.cut_ranges.are_same.Given as goal

-- Those that were seen are the same.
abbrev pub invariant-loop-place : goal.invariant-loop-place
invariant-loop-place l = (k : ℕ) → k < l.place → range_at l.one k ≡ range_at l.other k
