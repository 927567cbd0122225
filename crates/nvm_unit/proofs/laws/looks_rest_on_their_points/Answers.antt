use Rattle.nvm_unit.proofs.Resting.{look_rests, observed_rests}
use Rattle.nvm_unit.proofs.laws.looks_rest_on_their_points.Goals as goal

pub returns-clause-at : goal.returns-clause-at
returns-clause-at c = look_rests

pub returns-clause-observed : goal.returns-clause-observed
returns-clause-observed c = observed_rests
