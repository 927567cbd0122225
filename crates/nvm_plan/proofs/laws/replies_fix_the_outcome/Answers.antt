use Rattle.nvm_plan.proofs.OneOutcome.{same_outcome}
use Rattle.nvm_plan.proofs.laws.replies_fix_the_outcome.Goals as goal

pub returns-clause-statuses : goal.returns-clause-statuses
returns-clause-statuses c ns job replies told other read also a b = (same_outcome ns job replies told other read also a b).0

pub returns-clause-payload : goal.returns-clause-payload
returns-clause-payload c ns job replies told other read also a b = (same_outcome ns job replies told other read also a b).1
