-- When a step that comes too late is found.
use Rattle.std.specs.Prelude.{◌≡◌, List, Contains, Option, Some}
use Rattle.nvm_trace.specs.declared.step.Step.{Step}
use Rattle.nvm_trace.specs.Order.{Precedes}
use Rattle.nvm_trace.specs.Timely.{HadEnded}

-- One of these steps is found, and another that stands before it in its unit and whose command began only when its own had ended.
pub record IsOfLate (steps : List Step) (found : Option (Step × Step)) : Type 0 where
  pub late : Step
  pub late_there : Contains steps late
  pub earlier : Step
  pub earlier_there : Contains steps earlier
  pub before : Precedes earlier late
  pub ended : HadEnded late.ended earlier.began
  pub is : found ≡ Some (late, earlier)
