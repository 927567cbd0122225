use Rattle.nvm_audit.proofs.FewDone.{few_done}
use Rattle.nvm_audit.proofs.laws.each_worker_did_few_jobs.Goals as goal

pub returns : goal.returns
returns c = few_done
