use Rattle.std.proofs.Common.{ℕ}
use Rattle.nvm_space.specs.Inside.Meeting.{MeetBelow}
use Rattle.nvm_space.specs.Ports.{ArePassesOfAll}
use Rattle.nvm_space.proofs.meeting.meet_in_each.Given as goal

abbrev pub invariant-loop-place : goal.invariant-loop-place
invariant-loop-place g l = record {
  one : (n : ℕ) → ArePassesOfAll l.units n l.fn.one.items → ArePassesOfAll l.units n l.one.items;
  other : (n : ℕ) → ArePassesOfAll l.units n l.fn.other.items → ArePassesOfAll l.units n l.other.items;
  met : MeetBelow l.place l.fn.one.items l.fn.other.items l.one.items l.other.items;
}
