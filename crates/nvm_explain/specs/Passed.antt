-- The first part of a worker in a unit that had passed a point.
use Rattle.std.specs.Prelude.{ℕ, ◌==◌, ◌&&◌, ◌||◌, nat_lt, if◌then◌else◌, Bool, true, false, List, [], ◌∷◌, Option, Some, None, position}
use Rattle.nvm_plan.specs.declared.part.Part.{Part}
use Rattle.nvm_plan.specs.declared.part.PartResult.{PartResult}
use Rattle.nvm_plan.specs.declared.part.PartResult.TheVariants.{Done, Failed, Looked, NoMemory, Full}
use Rattle.nvm_audit.specs.declared.audit_fault.Spot.{Spot}
use Rattle.nvm_audit.specs.RecordedJob.{RecordedJob}
use Rattle.nvm_explain.specs.declared.doing.DonePart.{DonePart}
use Rattle.nvm_explain.specs.Doing.{part_of_done}

-- an entry was made
abbrev pub made_entry : PartResult → Bool
made_entry Done = true
made_entry Failed = false
made_entry Looked = false
made_entry NoMemory = false
made_entry Full = false

-- The worker of the part had passed the point: its own was later, or it made the entry there.
abbrev pub has_passed : ℕ → Part → Bool
has_passed point part = nat_lt point part.point || (part.point == point && made_entry part.result)

-- the part of this job, if there is one and it had passed the point, and else another
abbrev pub passed_or : ℕ → ℕ → Option (ℕ × Part) → Option DonePart → Option (ℕ × Part)
passed_or job point other None = other
passed_or job point other (Some found) = if has_passed point found.part then Some (job, found.part) else other

-- the first part in the unit that had passed the point, among what a worker did, with the number of its job
abbrev pub first_passed : Spot → List RecordedJob → Option (ℕ × Part)
first_passed spot [] = None
first_passed spot (done ∷ work) = passed_or done.job spot.place (first_passed spot work) (part_of_done spot.unit done)

-- where the first that is of the job of this number is
unfoldable pub job_place : ℕ → List RecordedJob → Option ℕ
job_place number work = position (λ done. done.job == number) work
