use Rattle.std.proofs.Common.{◌≡◌, take}
use Rattle.std.specs.List.{All}
use Rattle.nvm_record.specs.Ranges.{data_of_ranges, FitsItsBytes}
use Rattle.nvm_record.proofs.lba_range.ranges_data.Given as goal

abbrev pub invariant-loop-range : goal.invariant-loop-range
invariant-loop-range l = record {
  bytes : l.payload.items ≡ data_of_ranges (take l.range-index l.ranges);
  fit : All FitsItsBytes (take l.range-index l.ranges);
}
