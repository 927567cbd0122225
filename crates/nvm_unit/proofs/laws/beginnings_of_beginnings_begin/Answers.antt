use Rattle.nvm_unit.proofs.Histories.{begins_itself, begins_length}
use Rattle.nvm_unit.proofs.Marking.{begins_further, shorter_begins}
use Rattle.nvm_unit.proofs.laws.beginnings_of_beginnings_begin.Goals as goal

pub returns-clause-itself : goal.returns-clause-itself
returns-clause-itself c = begins_itself

pub returns-clause-further : goal.returns-clause-further
returns-clause-further c = begins_further

pub returns-clause-length : goal.returns-clause-length
returns-clause-length c = begins_length

pub returns-clause-shorter : goal.returns-clause-shorter
returns-clause-shorter c = shorter_begins
