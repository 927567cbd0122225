use Rattle.nvm_geometry.proofs.InLine.{pieces_in_line, pieces_in_unit, units_of_pieces, pieces_of_units}
use Rattle.nvm_geometry.proofs.laws.pieces_stand_in_line.Goals as goal

pub returns-clause-in_line : goal.returns-clause-in_line
returns-clause-in_line c = pieces_in_line

pub returns-clause-in_unit : goal.returns-clause-in_unit
returns-clause-in_unit c = pieces_in_unit

pub returns-clause-units : goal.returns-clause-units
returns-clause-units c = units_of_pieces

pub returns-clause-each : goal.returns-clause-each
returns-clause-each c = pieces_of_units
