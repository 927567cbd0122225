use Rattle.std.proofs.Common.{map}
use Rattle.nvm_plan.proofs.Arity.{shape_for_each}
use Rattle.nvm_plan.proofs.laws.each_command_has_a_status.Goals as goal

pub returns-clause-outcome : goal.returns-clause-outcome
returns-clause-outcome c ns job replies told read h =
    shape_for_each ns job (map (λ reply. reply.part) replies) told read (c.outcomes_have_their_shape.ensures ns job replies told read h)

pub returns-clause-shape : goal.returns-clause-shape
returns-clause-shape c = shape_for_each
