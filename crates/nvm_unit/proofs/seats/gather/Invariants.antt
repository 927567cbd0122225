use Rattle.std.proofs.Common.{◌≡◌, ℕ, ◌++◌, vec_len}
use Rattle.nvm_unit.specs.Ends.{views_of}
use Rattle.nvm_record.specs.Lists.{IsAt}
use Rattle.nvm_unit.specs.Passes.{PassState}
use Rattle.nvm_unit.specs.Inside.Plays.{resting}
use Rattle.nvm_unit.proofs.seats.gather.Given as goal

-- The passes at the seat complete those that are left.
abbrev pub invariant-loop-pass : goal.invariant-loop-pass
invariant-loop-pass g l = record {
  at : l.token.seat.table_id ≡ l.desk.table.shared.table_id;
  rests : l.token.seat.me ≡ resting l.token.seat.me.0.passes;
  all : views_of l.left.items ++ l.token.seat.me.0.passes ≡ views_of l.fn.all.items;
  each : (i : ℕ) (pass : PassState) → IsAt l.left.items i pass → pass.table ≡ l.desk.table.shared.table_id;
}

abbrev pub decreases-loop-pass : goal.decreases-loop-pass
decreases-loop-pass g l = vec_len l.left
