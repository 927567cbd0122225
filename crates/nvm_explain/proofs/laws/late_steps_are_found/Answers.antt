use Rattle.nvm_explain.proofs.Late.{first_is_found}
use Rattle.nvm_explain.proofs.laws.late_steps_are_found.Goals as goal

pub returns : goal.returns
returns c = first_is_found
