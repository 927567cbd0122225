use Rattle.nvm_audit.proofs.OneList.{all_done, all_done_once}
use Rattle.nvm_audit.proofs.laws.done_jobs_are_one_list.Goals as goal

pub returns-clause-some : goal.returns-clause-some
returns-clause-some c = λ r lawful. all_done r lawful

pub returns-clause-alone : goal.returns-clause-alone
returns-clause-alone c = λ r its other lawful. all_done_once r lawful its other
