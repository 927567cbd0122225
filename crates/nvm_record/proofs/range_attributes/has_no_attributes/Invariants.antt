use Rattle.std.proofs.Common.{◌≡◌, ◌+◌, ◌*◌, ◌++◌, length, take}
use Rattle.nvm_record.specs.Ranges.{data_of_ranges, ranges_of}
use Rattle.nvm_record.proofs.range_attributes.has_no_attributes.Given as goal

abbrev pub invariant-loop-place : goal.invariant-loop-place
invariant-loop-place l = record {
  left : length l.rest + l.place * 16 ≡ length l.payload;
  front : l.payload ≡ data_of_ranges (take l.place (ranges_of l.payload)) ++ l.rest;
}
