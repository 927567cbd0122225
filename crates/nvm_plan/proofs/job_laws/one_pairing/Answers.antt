use Rattle.nvm_plan.proofs.OnePairing.{one_pairing_alone}
use Rattle.nvm_plan.proofs.JobsMade.{some_pairing}
use Rattle.nvm_plan.proofs.job_laws.one_pairing.Goals as goal

pub returns-clause-some : goal.returns-clause-some
returns-clause-some c = some_pairing

pub returns-clause-alone : goal.returns-clause-alone
returns-clause-alone c = one_pairing_alone
