use Rattle.nvm_plan.proofs.JobsFit.{all_fit}
use Rattle.nvm_plan.proofs.job_laws.jobs_fit.Goals as goal

pub returns : goal.returns
returns c = all_fit
