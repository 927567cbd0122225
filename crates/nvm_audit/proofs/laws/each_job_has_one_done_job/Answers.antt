use Rattle.nvm_audit.proofs.LawfulDone.{done_once, each_done}
use Rattle.nvm_audit.proofs.laws.each_job_has_one_done_job.Goals as goal

pub returns-clause-some : goal.returns-clause-some
returns-clause-some c = λ r number lawful. each_done r lawful number

pub returns-clause-alone : goal.returns-clause-alone
returns-clause-alone c = λ r number its other lawful. done_once r lawful number its other
