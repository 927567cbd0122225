use Rattle.std.proofs.Common.{◌/◌, ap, ◌∙◌}
use Rattle.std.proofs.Math.Nat.{div-one}
use Rattle.nvm_geometry.proofs.RegionUnits.{region_is_unit, regions_are_units}
use Rattle.nvm_geometry.proofs.laws.few_units_are_regions.Goals as goal

pub returns-clause-unit : goal.returns-clause-unit
returns-clause-unit c ns unit some few = ap (λ n. unit / n) (region_is_unit ns few) ∙ div-one unit

pub returns-clause-same : goal.returns-clause-same
returns-clause-same c ns some few = regions_are_units ns few
