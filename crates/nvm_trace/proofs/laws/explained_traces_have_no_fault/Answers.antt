use Rattle.nvm_trace.proofs.NoFault.{no_fault}
use Rattle.nvm_trace.proofs.laws.explained_traces_have_no_fault.Goals as goal

pub returns : goal.returns
returns c = no_fault c.one_check_is_the_first_fault.ensures.none
