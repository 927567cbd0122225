use Rattle.nvm_list.proofs.FirstFaults as first
use Rattle.nvm_list.proofs.laws.faults_are_first.Goals as goal

pub returns : goal.returns
returns c = first.faults_are_first
