use Rattle.nvm_geometry.proofs.RegionUnits.{region_covers, region_lies, region_number, region_some}
use Rattle.nvm_geometry.proofs.laws.regions_have_whole_units.Goals as goal

pub returns-clause-number : goal.returns-clause-number
returns-clause-number c = region_number

pub returns-clause-inside : goal.returns-clause-inside
returns-clause-inside c = region_lies

pub returns-clause-covers : goal.returns-clause-covers
returns-clause-covers c = region_covers

pub returns-clause-some : goal.returns-clause-some
returns-clause-some c ns _ = region_some ns
