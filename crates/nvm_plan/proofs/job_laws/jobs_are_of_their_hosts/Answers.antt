use Rattle.nvm_plan.proofs.JobPlaces.{all_of_hosts, all_whole}
use Rattle.nvm_plan.proofs.job_laws.jobs_are_of_their_hosts.Goals as goal

pub returns-clause-hosts : goal.returns-clause-hosts
returns-clause-hosts c = all_of_hosts

pub returns-clause-whole : goal.returns-clause-whole
returns-clause-whole c = all_whole
