use Rattle.nvm_record.proofs.OneReading.{all_alone, each_alone}
use Rattle.nvm_record.proofs.host_file.read_host.Goals as goal

pub returns-clause-all_commands : goal.returns-clause-all_commands
returns-clause-all_commands c = λ cs h. all_alone c.args.size c.args.bytes.now cs c.commands_of.result h c.commands_of.ensures.commands c.commands_of.ensures.fault

pub returns-clause-each_fault : goal.returns-clause-each_fault
returns-clause-each_fault c = λ f h. each_alone c.args.size c.args.bytes.now f c.commands_of.result h c.commands_of.ensures.commands c.commands_of.ensures.fault
