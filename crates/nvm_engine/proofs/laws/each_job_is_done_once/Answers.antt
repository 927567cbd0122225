use Rattle.nvm_engine.proofs.DoneOnce.{done_once}
use Rattle.nvm_engine.proofs.laws.each_job_is_done_once.Goals as goal

pub returns : goal.returns
returns c = done_once
