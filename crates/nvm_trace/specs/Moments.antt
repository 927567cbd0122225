-- Moments at which the steps could have taken place (own; Herlihy and Wing, "Linearizability", 1990).
use Rattle.std.specs.Prelude.{ℕ, ◌≤◌, List, Contains}
use Rattle.nvm_trace.specs.declared.step.Step.{Step}
use Rattle.nvm_trace.specs.Order.{Precedes}
use Rattle.nvm_trace.specs.Timely.{HadEnded}

-- Each step has a moment, between the beginning and the end of its command, and in no unit the moments fall along its order.
pub record HaveMoments (steps : List Step) : Type 0 where
  pub moment : Step → ℕ
  pub after_beginning : (s : Step) → Contains steps s → s.began ≤ moment s
  pub before_end : (s : Step) → Contains steps s → ¬ (HadEnded s.ended (moment s))
  pub in_order : (earlier later : Step) → Contains steps earlier → Contains steps later → Precedes earlier later
      → moment earlier ≤ moment later
