-- A step that comes too late, and one before it in its unit whose command began only when its own had ended.
use Rattle.std.specs.Prelude.{ℕ, ◌==◌, ◌&&◌, nat_lt, if◌then◌else◌, Bool, false, List, [], ◌∷◌, Option, Some, None}
use Rattle.nvm_audit.specs.declared.audit_fault.Spot.{Spot}
use Rattle.nvm_trace.specs.declared.step.Step.{Step}
use Rattle.nvm_trace.specs.Order.{level_of}

-- it is a step of this job at this spot
abbrev pub is_at : ℕ → Spot → Step → Bool
is_at job spot s = s.job == job && (s.unit == spot.unit && s.point == spot.place)

-- what ended then, if it ever did, had ended before this time
abbrev pub had_ended : Option ℕ → ℕ → Bool
had_ended None time = false
had_ended (Some ended) time = nat_lt ended time

-- the step stands before the late one in its unit, and its command began only when the late one's had ended
abbrev pub is_against : Step → Step → Bool
is_against late s = s.unit == late.unit && (nat_lt (level_of s) (level_of late) && had_ended late.ended s.began)

-- the first of these that does
abbrev pub step_against : Step → List Step → Option Step
step_against late [] = None
step_against late (s ∷ steps) = if is_against late s then Some s else step_against late steps

-- the late step with the one against it, if there is one, and else others
abbrev pub late_or : Step → Option (Step × Step) → Option Step → Option (Step × Step)
late_or late others None = others
late_or late others (Some earlier) = Some (late, earlier)

-- the first of these steps that is of this job at this spot and has one of all against it, with that one
abbrev pub late_among : List Step → ℕ → Spot → List Step → Option (Step × Step)
late_among all job spot [] = None
late_among all job spot (s ∷ steps) =
    if is_at job spot s then late_or s (late_among all job spot steps) (step_against s all) else late_among all job spot steps

-- the late step of this job at this spot, and one against it
abbrev pub late_pair : List Step → ℕ → Spot → Option (Step × Step)
late_pair steps job spot = late_among steps job spot steps
