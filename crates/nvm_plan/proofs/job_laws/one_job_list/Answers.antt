use Rattle.nvm_plan.proofs.OneOrder.{one_job_list_alone}
use Rattle.nvm_plan.proofs.JobsMade.{some_job_list}
use Rattle.nvm_plan.proofs.job_laws.one_job_list.Goals as goal

pub returns-clause-some : goal.returns-clause-some
returns-clause-some c = some_job_list

pub returns-clause-alone : goal.returns-clause-alone
returns-clause-alone c = one_job_list_alone
