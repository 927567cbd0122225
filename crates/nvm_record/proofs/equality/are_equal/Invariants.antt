use Rattle.std.proofs.Common.{◌≡◌, ◌≤◌, ◌-◌, length, take}
use Rattle.nvm_record.proofs.equality.are_equal.Given as goal

abbrev pub invariant-loop-from : goal.invariant-loop-from
invariant-loop-from l = record {
  long : length l.one ≡ length l.other;
  within : l.from ≤ length l.one;
  front : take l.from l.one ≡ take l.from l.other;
}

abbrev pub decreases-loop-from : goal.decreases-loop-from
decreases-loop-from l = length l.one - l.from
