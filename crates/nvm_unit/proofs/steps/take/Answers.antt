use Rattle.std.proofs.Common.{refl, arith}
use mathlib.Core.Option.{none}
use Rattle.atomic_table.specs.Table.{step}
use Rattle.nvm_unit.proofs.Allowed.{take_allowed}
use Rattle.nvm_unit.proofs.steps.take.Goals as goal

pub compare_exchange-requires : goal.compare_exchange-requires
compare_exchange-requires g c =
    let desk = c.args.desk.now in
    (c.requires.at, omega (arith, desk.sized), take_allowed g.D.Decides.decides (step 0 0 c.args.word 0 none) desk.table.shared.key _ _ c.args.word _ refl c.requires.free c.requires.rests c.requires.filled c.requires.alone)

pub returns-clause-taken : goal.returns-clause-taken
returns-clause-taken g c is = (c.compare_exchange.ensures.2.0 is).0

pub returns-clause-lost : goal.returns-clause-lost
returns-clause-lost g c not = (c.compare_exchange.ensures.2.1 not).0

pub returns-clause-taken_event : goal.returns-clause-taken_event
returns-clause-taken_event g c is = (c.compare_exchange.ensures.2.0 is).1

pub returns-clause-lost_event : goal.returns-clause-lost_event
returns-clause-lost_event g c not = (c.compare_exchange.ensures.2.1 not).1
