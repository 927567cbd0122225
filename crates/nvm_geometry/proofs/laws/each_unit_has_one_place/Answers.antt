use Rattle.nvm_geometry.proofs.UnitPlaces.{place_exists, one_place}
use Rattle.nvm_geometry.proofs.laws.each_unit_has_one_place.Goals as goal

pub returns-clause-place : goal.returns-clause-place
returns-clause-place c = place_exists

pub returns-clause-one : goal.returns-clause-one
returns-clause-one c = one_place
