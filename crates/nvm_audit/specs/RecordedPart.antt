-- The parts that a record shows: of each worker, in the order in which it did them (own).
use Rattle.std.specs.Prelude.{ℕ, ◌+◌, nat_eq, List, [], ◌∷◌, ◌++◌, filter, Bool, true, false}
use Rattle.std.specs.List.{flat_map}
use Rattle.nvm_record.specs.declared.status.Statuses.{Statuses}
use Rattle.nvm_record.specs.declared.status.Statuses.TheVariants.{One}
use Rattle.nvm_record.specs.Status.{successful_completion}
use Rattle.nvm_plan.specs.declared.part.Part.{Part}
use Rattle.nvm_audit.specs.RecordedJob.{RecordedJob}

-- One part: the number of the worker that did it, the job of which it is a part, as it was done, and whether it is the job's
-- last part that was done.
pub record RecordedPart : Type 0 where
  pub worker : ℕ
  pub done : RecordedJob
  pub part : Part
  pub is_last : Bool

abbrev pub recorded_part : ℕ → RecordedJob → Part → Bool → RecordedPart
recorded_part worker done part is_last = record { worker = worker; done = done; part = part; is_last = is_last }

-- these parts, which are the last ones of the job
abbrev pub parts_left : ℕ → RecordedJob → List Part → List RecordedPart
parts_left worker done [] = []
parts_left worker done (part ∷ []) = recorded_part worker done part true ∷ []
parts_left worker done (part ∷ next ∷ parts) = recorded_part worker done part false ∷ parts_left worker done (next ∷ parts)

-- the parts of all that the worker did
abbrev pub parts_of_work : ℕ → List RecordedJob → List RecordedPart
parts_of_work worker work = flat_map (λ done. parts_left worker done done.parts) work

-- the parts of these workers, the first of which has this number
abbrev pub parts_of_workers : ℕ → List (List RecordedJob) → List RecordedPart
parts_of_workers worker [] = []
parts_of_workers worker (work ∷ rest) = parts_of_work worker work ++ parts_of_workers (worker + 1) rest

-- What all workers did in the unit: the first worker's parts in its order, then the next one's.
abbrev pub parts_in_unit : ℕ → List (List RecordedJob) → List RecordedPart
parts_in_unit unit done = filter (λ p. nat_eq p.part.unit unit) (parts_of_workers 0 done)

-- What was answered for the part. The job's statuses are those of its last part, and a part with others after it succeeded: it
-- is one of a command by itself, since a pair has one part.
abbrev pub told_of_part : Bool → Statuses → Statuses
told_of_part true statuses = statuses
told_of_part false statuses = One successful_completion

abbrev pub told_of : RecordedPart → Statuses
told_of p = told_of_part p.is_last p.done.statuses
