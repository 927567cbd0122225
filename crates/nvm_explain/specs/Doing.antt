-- What is first found of a job, or of a part, among what workers did.
use Rattle.std.specs.Prelude.{ℕ, ◌==◌, if◌then◌else◌, List, [], ◌∷◌, find, length, Option, Some, None}
use Rattle.std.specs.Option.{option_or}
use Rattle.nvm_record.specs.declared.status.Statuses.{Statuses}
use Rattle.nvm_plan.specs.declared.part.Part.{Part}
use Rattle.nvm_audit.specs.RecordedJob.{RecordedJob}
use Rattle.nvm_audit.specs.RecordedPart.{told_of_part}
use Rattle.nvm_explain.specs.declared.doing.DonePart.{DonePart}

-- what was done of the job of this number by the first worker that did it
abbrev pub first_done : ℕ → List (List RecordedJob) → Option RecordedJob
first_done number [] = None
first_done number (work ∷ others) = option_or (find (λ done. done.job == number) work) (first_done number others)

-- The first of these parts in the unit, with the statuses that its host was sent of it. They are the last parts of a job with these statuses.
abbrev pub first_part : ℕ → Statuses → List Part → Option DonePart
first_part unit statuses [] = None
first_part unit statuses (part ∷ parts) =
    if part.unit == unit then Some (record { part = part; statuses = told_of_part (length parts == 0) statuses })
    else first_part unit statuses parts

-- the done job's first part in the unit
abbrev pub part_of_done : ℕ → RecordedJob → Option DonePart
part_of_done unit done = first_part unit done.statuses done.parts
