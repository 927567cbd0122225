use Rattle.std.proofs.Common.{◌≡◌, ◌-◌, ◌++◌, map}
use Rattle.nvm_unit.specs.Ends.{pass_at}
use Rattle.nvm_unit.specs.Machine.{newcomers_from}
use Rattle.nvm_unit.specs.Inside.Plays.{resting}
use Rattle.nvm_unit.proofs.seats.deal.Given as goal

-- The passes that are left complete those that have a seat of their own.
abbrev pub invariant-loop-number : goal.invariant-loop-number
invariant-loop-number g l = record {
  at : l.token.seat.table_id ≡ l.desk.table.shared.table_id;
  rests : l.token.seat.me ≡ resting (newcomers_from l.desk.table.shared.key l.number (l.count - l.number));
  dealt : l.passes.items ++ map (pass_at l.desk.table.shared.table_id l.versions) (newcomers_from l.desk.table.shared.key l.number (l.count - l.number))
      ≡ map (pass_at l.desk.table.shared.table_id l.versions) (newcomers_from l.desk.table.shared.key 0 l.count);
}
