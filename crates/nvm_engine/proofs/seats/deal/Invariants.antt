use Rattle.std.proofs.Common.{◌≡◌, ◌-◌, [], replicate}
use Rattle.nvm_engine.specs.Counters.{new_claim}
use Rattle.nvm_engine.specs.Inside.Plays.{resting}
use Rattle.nvm_engine.proofs.seats.deal.Given as goal

-- The workers that are left are at this seat.
abbrev pub invariant-loop-number : goal.invariant-loop-number
invariant-loop-number l = record {
  at : l.token.seat.table_id ≡ l.desk.table.shared.table_id;
  rests : l.token.seat.me ≡ resting (replicate (l.workers - l.number) []);
  dealt : l.claims.items ≡ replicate l.number (new_claim l.desk.table.shared.table_id);
}
