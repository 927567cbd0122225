use Rattle.nvm_unit.proofs.Marking.{brought_up, meeting}
use Rattle.nvm_unit.proofs.laws.passes_brought_up_keep_their_marks.Goals as goal

pub returns-clause-up : goal.returns-clause-up
returns-clause-up c = brought_up

pub returns-clause-met : goal.returns-clause-met
returns-clause-met c = meeting
