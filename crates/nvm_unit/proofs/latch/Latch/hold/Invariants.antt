use Rattle.std.proofs.Common.{◌≡◌}
use Rattle.nvm_unit.specs.Inside.Holding.{HasWaited}
use Rattle.nvm_unit.proofs.latch.Latch.hold.Given as goal

abbrev pub invariant-loop : goal.invariant-loop
invariant-loop g l = record {
  at : l.token.seat.table_id ≡ l.fn.token.seat.table_id;
  waited : HasWaited l.fn.token.seat.me l.token.seat.me;
}
