use Rattle.std.proofs.Common.{◌≡◌, ◌↔◌, drop}
use Rattle.nvm_record.specs.Ranges.{cut_ranges, data_of_ranges, ranges_of}
use Rattle.nvm_trace.proofs.pieces.are_cut.Given as goal

-- The data is that of all ranges exactly where the rest is that of those that are left.
abbrev pub invariant-loop-place : goal.invariant-loop-place
invariant-loop-place l =
    (l.part ≡ data_of_ranges (cut_ranges l.first l.blocks (ranges_of l.ranges)))
    ↔ (l.rest ≡ data_of_ranges (cut_ranges l.first l.blocks (drop l.place (ranges_of l.ranges))))
