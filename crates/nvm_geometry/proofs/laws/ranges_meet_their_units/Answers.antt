use Rattle.nvm_geometry.proofs.Deallocations.{range_is_met, units_from_first}
use Rattle.nvm_geometry.proofs.laws.ranges_meet_their_units.Goals as goal

pub returns-clause-met : goal.returns-clause-met
returns-clause-met c = range_is_met

pub returns-clause-all : goal.returns-clause-all
returns-clause-all c = units_from_first
