use Rattle.std.proofs.Common.{arith}
use mathlib.Core.Option.{none}
use Rattle.atomic_table.specs.Table.{step}
use Rattle.nvm_engine.proofs.Stepping.{draw_allowed}
use Rattle.nvm_engine.proofs.steps.draw.Goals as goal

pub fetch_add-requires : goal.fetch_add-requires
fetch_add-requires c =
    let desk = c.args.desk.now in
    let mine = c.requires.goes_on in
    (c.requires.at, omega (arith, desk.sized), draw_allowed (step desk.table.shared.table_id.slots 0 1 0 none) desk.table.shared.key _ _ mine.0 _ mine.1 mine.2)
