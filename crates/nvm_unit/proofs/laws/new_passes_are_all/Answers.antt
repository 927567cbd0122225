use Rattle.nvm_unit.proofs.Dealing.{newcomer_proper}
use Rattle.nvm_unit.proofs.Newcomers.{all_new, new_pass_is}
use Rattle.nvm_unit.proofs.laws.new_passes_are_all.Goals as goal

pub returns-clause-all : goal.returns-clause-all
returns-clause-all c = all_new

pub returns-clause-each : goal.returns-clause-each
returns-clause-each c = new_pass_is

pub returns-clause-proper : goal.returns-clause-proper
returns-clause-proper c = newcomer_proper
