use Rattle.std.proofs.Common.{map}
use Rattle.nvm_plan.proofs.DataTold.{data_told_of_read}
use Rattle.nvm_plan.proofs.laws.data_comes_with_success.Goals as goal

pub returns-clause-outcome : goal.returns-clause-outcome
returns-clause-outcome c ns job replies told read h =
    data_told_of_read ns job (map (λ reply. reply.part) replies) told read (c.outcomes_have_their_shape.ensures ns job replies told read h)

pub returns-clause-shape : goal.returns-clause-shape
returns-clause-shape c = data_told_of_read
