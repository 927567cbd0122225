use Rattle.nvm_geometry.proofs.Reached.{reaches_all, ranges_all, units_all}
use Rattle.nvm_geometry.proofs.UnitPlaces.{block_is_met}
use Rattle.nvm_geometry.proofs.laws.whole_ranges_are_reached.Goals as goal

pub returns-clause-reached : goal.returns-clause-reached
returns-clause-reached c = reaches_all

pub returns-clause-ranges : goal.returns-clause-ranges
returns-clause-ranges c = ranges_all

pub returns-clause-units : goal.returns-clause-units
returns-clause-units c = units_all

pub returns-clause-met : goal.returns-clause-met
returns-clause-met c = block_is_met
