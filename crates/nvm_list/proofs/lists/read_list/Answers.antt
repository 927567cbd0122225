use Rattle.nvm_list.proofs.ReadWhole.{whole_where_read, few_where_read}
use Rattle.nvm_list.proofs.lists.read_list.Goals as goal

pub returns-clause-whole : goal.returns-clause-whole
returns-clause-whole c = whole_where_read c.opcodes_are_proper.ensures c.ranges_are_read_back.ensures.again c.args.size c.args.text.now c.commands_of.result c.commands_of.ensures.commands

pub returns-clause-few : goal.returns-clause-few
returns-clause-few c = few_where_read c.opcodes_are_proper.ensures c.ranges_are_read_back.ensures.again c.args.size c.args.text.now c.commands_of.result c.commands_of.ensures.commands
