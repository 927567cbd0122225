use Rattle.std.proofs.Common.{◌≡◌, ◌++◌, All}
use Rattle.nvm_record.specs.Ranges.{cut_ranges, ranges_of, data_of_ranges, FitsItsBytes}
use Rattle.nvm_store.proofs.cut_ranges.cut_data.Given as goal

-- What is written is the data of those ranges that were taken.
abbrev pub invariant-loop-range : goal.invariant-loop-range
invariant-loop-range l = record {
  split : l.yielded ++ l.range-iterator ≡ cut_ranges l.first l.blocks (ranges_of l.ranges);
  bytes : l.bytes.items ≡ data_of_ranges l.yielded;
  fit : All FitsItsBytes l.yielded;
}
