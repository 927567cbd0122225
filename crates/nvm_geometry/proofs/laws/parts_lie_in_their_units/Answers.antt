use Rattle.nvm_geometry.proofs.Reached.{reached_block, part_has_ranges}
use Rattle.nvm_geometry.proofs.UnitPlaces.{unit_is_met, part_in_place, part_has_data}
use Rattle.nvm_geometry.proofs.laws.parts_lie_in_their_units.Goals as goal

pub returns-clause-some : goal.returns-clause-some
returns-clause-some c ns op unit inside met = reached_block ns op unit ((unit_is_met ns op unit inside).0 met)

pub returns-clause-lies : goal.returns-clause-lies
returns-clause-lies c ns op unit first blocks inside place met =
    part_in_place ns op.first op.blocks unit first blocks inside place
    (reached_block ns op unit ((unit_is_met ns op unit inside).0 met))

pub returns-clause-ranges : goal.returns-clause-ranges
returns-clause-ranges c ns op unit inside met =
    part_has_ranges c.cut_ranges_lie_within.ensures.has c.cut_ranges_lie_within.ensures.within ns op unit
    ((unit_is_met ns op unit inside).0 met)

pub returns-clause-payload : goal.returns-clause-payload
returns-clause-payload c = part_has_data
