use Rattle.nvm_record.proofs.WholeCommands.{proper}
use Rattle.nvm_record.proofs.laws.opcodes_are_proper.Goals as goal

pub returns : goal.returns
returns c = proper
