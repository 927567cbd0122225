use Rattle.nvm_unit.proofs.Resting.{change_rests, done_stands, failed_rests}
use Rattle.nvm_unit.proofs.laws.changes_rest_on_their_points.Goals as goal

pub returns-clause-at : goal.returns-clause-at
returns-clause-at c = change_rests

pub returns-clause-done : goal.returns-clause-done
returns-clause-done c = done_stands

pub returns-clause-failed : goal.returns-clause-failed
returns-clause-failed c = failed_rests
