use Rattle.std.proofs.Common.{ℕ, ◌≤◌}
use Rattle.nvm_standard.specs.PointView.{seen_table}
use Rattle.nvm_standard.specs.Inside.Timely.{KeepsTimeTo, BeganBy}
use Rattle.nvm_standard.specs.OrderView.{seen_order}
use Rattle.nvm_standard.proofs.timing.time_back.Given as goal

-- Up to here the order keeps time, and no command of it began after this time, which is the least such.
abbrev pub invariant-loop-position : goal.invariant-loop-position
invariant-loop-position l =
    record {
      kept : KeepsTimeTo (seen_table l.points) (seen_order l.order) l.position;
      began : BeganBy (seen_table l.points) (seen_order l.order) l.position l.latest;
      least : (m : ℕ) → BeganBy (seen_table l.points) (seen_order l.order) l.position m → l.latest ≤ m;
    }
