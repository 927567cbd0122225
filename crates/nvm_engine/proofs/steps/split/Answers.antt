use Rattle.std.proofs.Common.{arith}
use Rattle.nvm_engine.proofs.Stepping.{split_allowed}
use Rattle.nvm_engine.proofs.steps.split.Goals as goal

pub split_seat-requires : goal.split_seat-requires
split_seat-requires c =
    let desk = c.args.desk.now in
    let mine = c.args.token.now.seat in
    (c.requires.at, omega (arith, desk.sized), split_allowed desk.table.shared.key mine.id mine.me.0)
