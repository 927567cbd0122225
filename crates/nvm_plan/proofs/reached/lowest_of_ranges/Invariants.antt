use Rattle.std.proofs.Common.{map}
use Rattle.std.specs.List.{range_with_len}
use Rattle.nvm_record.specs.Ranges.{range_at, ranges_have}
use Rattle.nvm_geometry.specs.Lowest.{IsLowest}
use Rattle.nvm_plan.proofs.reached.lowest_of_ranges.Given as goal

-- the lowest LBA of the ranges so far
abbrev pub invariant-loop-place : goal.invariant-loop-place
invariant-loop-place l = IsLowest (ranges_have (map (range_at l.ranges) (range_with_len 0 l.place))) l.from l.lowest
