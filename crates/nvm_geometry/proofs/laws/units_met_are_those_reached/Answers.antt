use Rattle.nvm_geometry.proofs.UnitPlaces.{lba_is_met, test_is_met, met_known, units_few, units_some, units_unmet, lba_unmet}
use Rattle.nvm_geometry.proofs.laws.units_met_are_those_reached.Goals as goal

pub returns-clause-met : goal.returns-clause-met
returns-clause-met c = lba_is_met

pub returns-clause-tested : goal.returns-clause-tested
returns-clause-tested c = test_is_met

pub returns-clause-known : goal.returns-clause-known
returns-clause-known c = met_known

pub returns-clause-few : goal.returns-clause-few
returns-clause-few c = units_few

pub returns-clause-some : goal.returns-clause-some
returns-clause-some c = units_some

pub returns-clause-none : goal.returns-clause-none
returns-clause-none c = units_unmet

pub returns-clause-unmet : goal.returns-clause-unmet
returns-clause-unmet c = lba_unmet
