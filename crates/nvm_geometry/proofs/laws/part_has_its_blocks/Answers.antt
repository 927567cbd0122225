use Rattle.nvm_geometry.proofs.Places.{part_lbas, block_of_part}
use Rattle.nvm_geometry.proofs.Reached.{part_reaches}
use Rattle.nvm_geometry.proofs.laws.part_has_its_blocks.Goals as goal

pub returns-clause-lbas : goal.returns-clause-lbas
returns-clause-lbas c = part_lbas

pub returns-clause-reached : goal.returns-clause-reached
returns-clause-reached c = part_reaches c.cut_ranges_lie_within.ensures.has

pub returns-clause-payload : goal.returns-clause-payload
returns-clause-payload c = block_of_part
