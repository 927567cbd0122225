use Rattle.nvm_audit.proofs.NoJobs as jobs
use Rattle.nvm_audit.proofs.laws.no_jobs_are_lawful.Goals as goal

pub returns : goal.returns
returns c = jobs.no_jobs_are_lawful
