use Rattle.std.proofs.Common.{◌≡◌, ◌↔◌, drop}
use Rattle.nvm_record.specs.Ranges.{cut_ranges, ranges_of}
use Rattle.nvm_store.proofs.cut_ranges.are_left.Given as goal

-- What is still to come of both is the same exactly where all is.
abbrev pub invariant-loop-place : goal.invariant-loop-place
invariant-loop-place l =
    (l.cuts ≡ drop l.place (ranges_of l.kept)) ↔ (cut_ranges l.first l.blocks (ranges_of l.ranges) ≡ ranges_of l.kept)
