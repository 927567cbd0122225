-- When the order of the steps keeps real time: no command began after the end of one that comes after it in the order of a
-- unit. For each unit this is the real-time order of linearizability (own). Commands of which one began when the other ended
-- overlap, so a coarse clock hides faults.
use Rattle.std.specs.Prelude.{ℕ, ◌<◌, List, Contains, Option, Some, None}
use Rattle.nvm_record.specs.Lists.{IsAt}
use Rattle.nvm_trace.specs.declared.step.Step.{Step}
use Rattle.nvm_trace.specs.Order.{Precedes}

-- What ended then, if it ever did, had ended before this time.
abbrev pub HadEnded : Option ℕ → ℕ → Type 0
HadEnded None time = ⊥
HadEnded (Some ended) time = ended < time

-- The step's command had ended before that of an earlier step of its unit began.
pub record IsLate (steps : List Step) (late : Step) : Type 0 where
  pub earlier : Step
  pub shown : Contains steps earlier
  pub before : Precedes earlier late
  pub ended : HadEnded late.ended earlier.began

-- No step is late.
abbrev pub IsTimely : List Step → Type 0
IsTimely steps = (s : Step) → Contains steps s → ¬ (IsLate steps s)

-- The first of the steps that is late is at this place.
pub record IsFirstLate (steps : List Step) (place : ℕ) : Type 0 where
  pub late : Step
  pub there : IsAt steps place late
  pub is : IsLate steps late
  pub before : (k : ℕ) (s : Step) → k < place → IsAt steps k s → ¬ (IsLate steps s)
