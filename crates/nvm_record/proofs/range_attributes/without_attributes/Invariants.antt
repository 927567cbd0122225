use Rattle.std.proofs.Common.{◌≡◌, take}
use Rattle.std.specs.List.{All}
use Rattle.nvm_record.specs.Ranges.{data_of_ranges, ranges_of, FitsItsBytes}
use Rattle.nvm_record.proofs.range_attributes.without_attributes.Given as goal

abbrev pub invariant-loop-place : goal.invariant-loop-place
invariant-loop-place l = record {
  bytes : l.kept.items ≡ data_of_ranges (take l.place (ranges_of l.payload));
  fit : All FitsItsBytes (take l.place (ranges_of l.payload));
}
