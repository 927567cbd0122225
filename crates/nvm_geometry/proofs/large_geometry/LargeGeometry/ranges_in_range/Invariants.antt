use Rattle.std.proofs.Common.{ℕ, ◌+◌, ◌<◌, ◌≤◌}
use Rattle.nvm_record.specs.Ranges.{range_at}
use Rattle.nvm_geometry.proofs.large_geometry.LargeGeometry.ranges_in_range.Given as goal

-- the ranges so far end in the namespace
abbrev pub invariant-loop-place : goal.invariant-loop-place
invariant-loop-place l =
    (k : ℕ) → k < l.place → (range_at l.ranges k).first + (range_at l.ranges k).blocks ≤ l.self.nsze
