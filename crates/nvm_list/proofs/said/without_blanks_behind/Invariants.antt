use Rattle.std.proofs.Common.{◌≡◌, ◌≤◌, length, take, reverse}
use Rattle.nvm_list.specs.Said.{without_blanks_before}
use Rattle.nvm_list.proofs.said.without_blanks_behind.Given as goal

abbrev pub invariant-loop-end : goal.invariant-loop-end
invariant-loop-end l = record {
  within : l.end ≤ length l.bytes;
  same : without_blanks_before (reverse (take l.end l.bytes)) ≡ without_blanks_before (reverse l.bytes);
}

abbrev pub decreases-loop-end : goal.decreases-loop-end
decreases-loop-end l = l.end
