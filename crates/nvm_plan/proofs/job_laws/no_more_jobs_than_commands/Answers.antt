use Rattle.nvm_plan.proofs.JobsMade.{no_more_jobs, few_jobs}
use Rattle.nvm_plan.proofs.job_laws.no_more_jobs_than_commands.Goals as goal

pub returns-clause-jobs : goal.returns-clause-jobs
returns-clause-jobs c = no_more_jobs

pub returns-clause-most : goal.returns-clause-most
returns-clause-most c = few_jobs
