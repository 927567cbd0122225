use Rattle.std.proofs.Common.{arith}
use mathlib.Core.Option.{none}
use Rattle.atomic_table.specs.Table.{step}
use Rattle.nvm_unit.proofs.Allowed.{look_allowed}
use Rattle.nvm_unit.proofs.steps.load.Goals as goal

pub load-requires : goal.load-requires
load-requires g c =
    let desk = c.args.desk.now in
    (c.requires.at, omega (arith, desk.sized), look_allowed g.D.Decides.decides (step 0 0 0 0 none) desk.table.shared.key _ _ _ c.requires.filled c.requires.alone)

pub returns-clause-looked : goal.returns-clause-looked
returns-clause-looked g c = c.load.ensures.2.0

pub returns-clause-event : goal.returns-clause-event
returns-clause-event g c = c.load.ensures.2.1
