use Rattle.std.proofs.Common.{◌≡◌, ◌≤◌, ◌+◌, ◌-◌, length, drop}
use Rattle.nvm_trace_text.specs.Marks.{mark_place}
use Rattle.nvm_trace_text.proofs.mark.mark_place.Given as goal

abbrev pub invariant-loop-place : goal.invariant-loop-place
invariant-loop-place l = record {
  within : l.place ≤ length l.bytes;
  same : l.place + mark_place l.mark (drop l.place l.bytes) ≡ mark_place l.mark l.bytes;
}

abbrev pub decreases-loop-place : goal.decreases-loop-place
decreases-loop-place l = length l.bytes - l.place
