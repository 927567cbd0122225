use Rattle.nvm_plan.proofs.ReachedLbas.{from_first}
use Rattle.nvm_plan.proofs.reached.first_reached.Goals as goal

pub returns-clause-first : goal.returns-clause-first
returns-clause-first c = c.reached_from.ensures.first 0 (from_first c.args.geometry.now)

pub returns-clause-none : goal.returns-clause-none
returns-clause-none c = c.reached_from.ensures.none 0 (from_first c.args.geometry.now)
