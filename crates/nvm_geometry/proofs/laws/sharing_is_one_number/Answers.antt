use Rattle.nvm_geometry.proofs.UnitOrder.{same_number, shares_from_number}
use Rattle.nvm_geometry.proofs.laws.sharing_is_one_number.Goals as goal

pub returns-clause-number : goal.returns-clause-number
returns-clause-number c = same_number

pub returns-clause-shares : goal.returns-clause-shares
returns-clause-shares c = shares_from_number
