use Rattle.nvm_plan.proofs.JobPlaces.{stands_somewhere, stands_once}
use Rattle.nvm_plan.proofs.job_laws.each_job_stands_once.Goals as goal

pub returns-clause-somewhere : goal.returns-clause-somewhere
returns-clause-somewhere c = stands_somewhere

pub returns-clause-once : goal.returns-clause-once
returns-clause-once c = stands_once
