use Rattle.std.proofs.Common.{◌≡◌, ◌≤◌, ◌-◌, length, drop}
use Rattle.nvm_list.specs.Said.{without_blanks_before}
use Rattle.nvm_list.proofs.said.without_blanks_before.Given as goal

abbrev pub invariant-loop-start : goal.invariant-loop-start
invariant-loop-start l = record {
  within : l.start ≤ length l.bytes;
  same : without_blanks_before (drop l.start l.bytes) ≡ without_blanks_before l.bytes;
}

abbrev pub decreases-loop-start : goal.decreases-loop-start
decreases-loop-start l = length l.bytes - l.start
