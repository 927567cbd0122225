use Rattle.nvm_geometry.proofs.PartsMedium.{parts_medium}
use Rattle.nvm_geometry.proofs.PartsSuccess.{parts_success}
use Rattle.nvm_geometry.proofs.PartsData.{parts_data}
use Rattle.nvm_geometry.proofs.laws.parts_are_the_whole.Goals as goal

pub returns-clause-medium : goal.returns-clause-medium
returns-clause-medium c = parts_medium c.cut_ranges_lie_within.ensures.has

pub returns-clause-success : goal.returns-clause-success
returns-clause-success c = parts_success

pub returns-clause-data : goal.returns-clause-data
returns-clause-data c = parts_data
