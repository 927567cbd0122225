use Rattle.std.proofs.Common.{◌≡◌, ◌++◌, vec_len, All}
use Rattle.nvm_engine.specs.Counters.{lists_of}
use Rattle.nvm_engine.specs.Inside.Plays.{resting}
use Rattle.nvm_engine.proofs.seats.gather.Given as goal

-- The lists at the seat complete those that are left.
abbrev pub invariant-loop-claim : goal.invariant-loop-claim
invariant-loop-claim l = record {
  at : l.token.seat.table_id ≡ l.desk.table.shared.table_id;
  rests : l.token.seat.me ≡ resting l.token.seat.me.0;
  all : lists_of l.left.items ++ l.token.seat.me.0 ≡ lists_of l.fn.all.items;
  of : All (λ c. c.table ≡ l.desk.table.shared.table_id) l.left.items;
}

abbrev pub decreases-loop-claim : goal.decreases-loop-claim
decreases-loop-claim l = vec_len l.left
