use Rattle.nvm_unit.proofs.Later.{made_later, observed_later, waits_later}
use Rattle.nvm_unit.proofs.laws.waiting_is_no_step.Goals as goal

pub returns-clause-changed : goal.returns-clause-changed
returns-clause-changed c changed p q r job op waits makes = made_later p q waits changed r job op makes

pub returns-clause-looked : goal.returns-clause-looked
returns-clause-looked c answer p q r op waits observes = observed_later p q waits answer r op observes

pub returns-clause-again : goal.returns-clause-again
returns-clause-again c p q r first more = waits_later p q first r more
