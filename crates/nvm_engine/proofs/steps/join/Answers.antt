use Rattle.std.proofs.Common.{ap, arith}
use Rattle.nvm_engine.specs.Inside.Plays.{Sits}
use Rattle.nvm_engine.proofs.Stepping.{join_allowed}
use Rattle.nvm_engine.proofs.steps.join.Goals as goal

pub join_seat-requires : goal.join_seat-requires
join_seat-requires c =
    let desk = c.args.desk.now in
    let mine = c.args.token.now.seat in
    let other = c.args.other.seat in (
      c.requires.at,
      c.requires.other,
      ap (λ (m : Sits). m.1) c.requires.other_rests,
      omega (arith, desk.sized),
      join_allowed desk.table.shared.key mine.id other.id mine.me.0 other.me.0,
    )
