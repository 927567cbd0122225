-- A linearization of a unit: the steps that a record shows there, in an order in which a block store with one thread could have
-- taken them, each at a moment between the beginning and the end of its command, and each with the reply that was recorded
-- (own; Herlihy and Wing, "Linearizability", 1990). The store holds zero bytes at first. What was there before a trace is
-- written by preparations, which began and ended at time 0, and no command of a trace began then.
use Rattle.std.specs.Prelude.{◌≡◌, ℕ, ◌≤◌, List, [], ◌∷◌, map, filter, Bool, true, false, All, Contains}
use Rattle.std.specs.List.Sorted.{IsPermutation, IsNonDecreasingBy}
use Rattle.nvm_record.specs.Medium.{Medium, zero_medium}
use Rattle.nvm_record.specs.Step.{Operation, statuses_of, medium_after}
use Rattle.nvm_geometry.specs.Namespace.{Namespace}
use Rattle.nvm_geometry.specs.Parts.{part_in}
use Rattle.nvm_plan.specs.declared.part.PartResult.{PartResult}
use Rattle.nvm_plan.specs.declared.part.PartResult.TheVariants.{Done, Failed, Looked, NoMemory, Full}
use Rattle.nvm_audit.specs.RecordedPart.{RecordedPart, parts_in_unit, told_of}
use Rattle.nvm_audit.specs.RecordView.{RecordView}
use Rattle.nvm_audit.specs.Resting.{DoesOperation, HasRightData}
use Rattle.nvm_trace.specs.declared.step.Step.{Step}
use Rattle.nvm_trace.specs.declared.traced_job.TracedJob.{TracedJob}
use Rattle.nvm_trace.specs.Steps.{times_of, steps_of_part}
use Rattle.nvm_trace.specs.Timely.{HadEnded}

-- One step: the part of a job that was recorded, what the whole job does, and the moment at which the step takes place.
pub record TakenStep : Type 0 where
  pub part : RecordedPart
  pub whole : Operation
  pub moment : ℕ

-- what the step does: the job's part in the unit
abbrev pub operation_taken : Namespace → TakenStep → Operation
operation_taken ns s = part_in ns s.whole s.part.part.unit

-- The job does this, and the moment isn't before the job began, nor after it had ended. `jobs` has the traced job of each of the record's.
pub record IsInTime (jobs : List TracedJob) (r : RecordView) (s : TakenStep) : Type 0 where
  pub does : DoesOperation r.namespace r.jobs s.part.done.job s.whole
  pub after_beginning : (times_of jobs s.part.done.job).began ≤ s.moment
  pub before_end : ¬ (HadEnded (times_of jobs s.part.done.job).ended s.moment)

-- What was recorded of the part is what the step gives on this medium: the statuses, and the unit's bytes of a Read's data.
pub record HasReplyOn (ns : Namespace) (s : TakenStep) (m : Medium) : Type 0 where
  pub statuses : told_of s.part ≡ statuses_of (operation_taken ns s) m
  pub payload : HasRightData ns s.whole m s.part

-- Each step has its reply on the medium that the steps before it leave, where `m` was before.
abbrev pub HaveReplies : Namespace → Medium → List TakenStep → Type 0
HaveReplies ns m [] = Unit {0}
HaveReplies ns m (s ∷ steps) =
    HasReplyOn ns s m × HaveReplies ns (medium_after ns.block_size (operation_taken ns s) m) steps

-- A part that found no memory, or the history at its limit, did nothing.
abbrev pub is_step : PartResult → Bool
is_step Done = true
is_step Failed = true
is_step Looked = true
is_step NoMemory = false
is_step Full = false

-- the parts that are steps in the unit
abbrev pub step_parts : RecordView → ℕ → List RecordedPart
step_parts r unit = filter (λ p. is_step p.part.result) (parts_in_unit unit r.done)

pub record IsLinearization (jobs : List TracedJob) (r : RecordView) (unit : ℕ) (steps : List TakenStep) : Type 0 where
  -- They are the steps that the record shows in the unit, each once,
  pub whole : IsPermutation (step_parts r unit) (map (λ s. s.part) steps)
  -- each in the time of its command,
  pub in_time : All (IsInTime jobs r) steps
  -- in the order of their moments,
  pub in_order : IsNonDecreasingBy (λ s. s.moment) steps
  -- and one after the other, from zero bytes, they have the replies that were recorded.
  pub replies : HaveReplies r.namespace (zero_medium r.namespace.block_size) steps

-- It takes place at the moment that these moments give to its part's step.
abbrev pub IsAtMoment : List TracedJob → (Step → ℕ) → TakenStep → Type 0
IsAtMoment jobs moment s =
    (step : Step) → Contains (steps_of_part (times_of jobs s.part.done.job) s.part.done.job s.part.part) step
    → s.moment ≡ moment step
