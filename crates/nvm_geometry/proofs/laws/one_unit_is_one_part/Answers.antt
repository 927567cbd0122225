use Rattle.nvm_geometry.proofs.OneUnit.{one_unit_reached, one_unit, one_part}
use Rattle.nvm_geometry.proofs.laws.one_unit_is_one_part.Goals as goal

pub returns-clause-reached : goal.returns-clause-reached
returns-clause-reached c = one_unit_reached

pub returns-clause-unit : goal.returns-clause-unit
returns-clause-unit c = one_unit

pub returns-clause-part : goal.returns-clause-part
returns-clause-part c = one_part c.cut_ranges_lie_within.ensures.itself
