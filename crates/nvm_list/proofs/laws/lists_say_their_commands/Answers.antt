use Rattle.nvm_list.proofs.SaidOfCommands as said
use Rattle.nvm_list.proofs.laws.lists_say_their_commands.Goals as goal

pub returns : goal.returns
returns c = said.lists_say_their_commands
