use Rattle.nvm_plan.proofs.OutcomeShape.{outcome_shape}
use Rattle.nvm_plan.proofs.laws.outcomes_have_their_shape.Goals as goal

pub returns : goal.returns
returns c = outcome_shape
