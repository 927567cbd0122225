use Rattle.std.proofs.Common.{◌≡◌, drop}
use Rattle.nvm_record.specs.Ranges.{cut_ranges, ranges_of}
use Rattle.nvm_store.proofs.cut_ranges.next_cut.Given as goal

-- No block is left of the ranges that were seen.
abbrev pub invariant-loop-place : goal.invariant-loop-place
invariant-loop-place l =
    cut_ranges l.first l.blocks (drop l.place (ranges_of l.ranges)) ≡ cut_ranges l.first l.blocks (drop l.from (ranges_of l.ranges))
