-- What is first wrong with what is recorded of a job, where it hasn't the shape of an outcome: the first of the conditions of that
-- shape that doesn't hold, in their order. How many statuses there are after a part that failed or that looked isn't one of them here:
-- no record's file can have that wrong.
use Rattle.std.specs.Prelude.{ℕ, ◌==◌, ◌&&◌, if◌then◌else◌, List, [], ◌∷◌, length, Option, Some, None}
use Rattle.std.specs.Option.{option_or}
use Rattle.nvm_record.specs.declared.status.Statuses.{Statuses}
use Rattle.nvm_record.specs.Deeds.{is_read, success_of}
use Rattle.nvm_record.specs.Step.{Deed, Operation}
use Rattle.nvm_geometry.specs.Namespace.{Namespace}
use Rattle.nvm_geometry.specs.Parts.{units_met}
use Rattle.nvm_plan.specs.declared.job.Job.{Job}
use Rattle.nvm_plan.specs.declared.part.Part.{Part}
use Rattle.nvm_plan.specs.declared.part.PartResult.{PartResult}
use Rattle.nvm_plan.specs.declared.part.PartResult.TheVariants.{Done, Failed, Looked, NoMemory, Full}
use Rattle.nvm_plan.specs.Checks.{refusal_of}
use Rattle.nvm_plan.specs.Kinds.{kind_of}
use Rattle.nvm_plan.specs.Operation.{job_operation_of}
use Rattle.nvm_plan.specs.Outcome.{unstarted_of}
use Rattle.nvm_plan.specs.Reply.{can_have, stop_of}
use Rattle.nvm_plan.specs.Shape.{goes_on}
use Rattle.nvm_audit.specs.RecordedJob.{RecordedJob}
use Rattle.nvm_explain.specs.declared.shape_fault.ShapeFault.{ShapeFault}
use Rattle.nvm_explain.specs.declared.shape_fault.ShapeFault.TheVariants.{UnitWrong, ResultWrong, PartAfterEnd, StatusRefused, StatusUnstarted, StatusAfter, PartMissing, DataMissing, DataGiven}
use Rattle.nvm_explain.specs.Ended.{same_statuses}
use Rattle.nvm_explain.specs.Reached.{is_success}

-- The first of the parts that isn't in the first of these units that is left, if there is one.
abbrev pub unit_fault : List Part → List ℕ → Option ShapeFault
unit_fault [] units = None
unit_fault (part ∷ parts) [] = Some (UnitWrong part.unit None)
unit_fault (part ∷ parts) (unit ∷ units) =
    if part.unit == unit then unit_fault parts units else Some (UnitWrong part.unit (Some unit))

-- the units that are left after those of the parts
abbrev pub units_left : List Part → List ℕ → List ℕ
units_left [] units = units
units_left (part ∷ parts) [] = []
units_left (part ∷ parts) (unit ∷ units) = units_left parts units

-- the first of the parts that ended as no part of the deed can, if one did
abbrev pub result_fault : Deed → List Part → Option ShapeFault
result_fault deed [] = None
result_fault deed (part ∷ parts) =
    if can_have deed part.result then result_fault deed parts else Some (ResultWrong part.unit part.result (kind_of deed))

-- the statuses that are due, if they aren't these
abbrev pub unless_due : (Statuses → ShapeFault) → Statuses → Statuses → Option ShapeFault
unless_due fault due recorded = if same_statuses recorded due then None else Some (fault due)

-- The statuses aren't those that are due where the last part ended so. Those of a comparison that failed and of a look rest on
-- what the unit held.
abbrev pub status_after : Statuses → Statuses → Statuses → PartResult → Option ShapeFault
status_after success stop recorded Done = unless_due (StatusAfter recorded Done) success recorded
status_after success stop recorded Failed = None
status_after success stop recorded Looked = None
status_after success stop recorded NoMemory = unless_due (StatusAfter recorded NoMemory) stop recorded
status_after success stop recorded Full = unless_due (StatusAfter recorded Full) stop recorded

-- The first of the parts after which there may be none, where there is one; or the statuses where they aren't those that the last of the
-- parts decides.
abbrev pub end_fault : Statuses → Statuses → Statuses → List Part → Option ShapeFault
end_fault success stop recorded [] = None
end_fault success stop recorded (part ∷ parts) =
    if length parts == 0 then status_after success stop recorded part.result else
    if goes_on part.result then end_fault success stop recorded parts else Some (PartAfterEnd part.unit part.result)

-- a unit that is left where the job succeeded
abbrev pub missing_fault : Statuses → List ℕ → Option ShapeFault
missing_fault recorded [] = None
missing_fault recorded (unit ∷ units) = if is_success recorded then Some (PartMissing unit) else None

-- what is first wrong with the parts, and with the statuses after them, of a deed that has a part in each of these units
abbrev pub parts_fault : Deed → List ℕ → List Part → Statuses → Option ShapeFault
parts_fault deed units parts recorded =
    option_or (unit_fault parts units) (option_or (result_fault deed parts)
    (option_or (end_fault (success_of deed) (stop_of deed) recorded parts) (missing_fault recorded (units_left parts units))))

-- The statuses where no part was done aren't those that are due: success where the deed has no part.
abbrev pub unstarted_fault : Deed → List ℕ → Statuses → Option ShapeFault
unstarted_fault deed [] recorded = unless_due (StatusUnstarted recorded) (success_of deed) recorded
unstarted_fault deed (unit ∷ units) recorded = unless_due (StatusUnstarted recorded) (unstarted_of deed) recorded

-- what is first wrong with how the deed ended
abbrev pub ending_fault : Deed → List ℕ → List Part → Statuses → Option ShapeFault
ending_fault deed units [] recorded = unstarted_fault deed units recorded
ending_fault deed units (part ∷ parts) recorded = parts_fault deed units (part ∷ parts) recorded

-- Data is due of a Read that succeeded, and of nothing else.
abbrev pub data_fault : Deed → Statuses → Option (List ℕ) → Option ShapeFault
data_fault deed recorded None = if is_read deed && is_success recorded then Some DataMissing else None
data_fault deed recorded (Some bytes) = if is_read deed && is_success recorded then None else Some DataGiven

-- what is first wrong with what is recorded of a job that does this operation
abbrev pub ready_fault : Namespace → RecordedJob → Operation → Option ShapeFault
ready_fault ns d op =
    option_or (ending_fault op.deed (units_met ns op) d.parts d.statuses) (data_fault op.deed d.statuses d.payload)

-- no data is due
abbrev pub given_fault : Option (List ℕ) → Option ShapeFault
given_fault None = None
given_fault (Some bytes) = Some DataGiven

-- what is first wrong with what is recorded of a job that a check refuses with these statuses: it has no part and no data
abbrev pub refused_fault : Statuses → RecordedJob → Option ShapeFault
refused_fault refusal d =
    option_or (unit_fault d.parts []) (option_or (unless_due (StatusRefused d.statuses) refusal d.statuses) (given_fault d.payload))

-- what is first wrong with what is recorded of a job that no check refuses, by what the job does
abbrev pub fault_of_ready : Namespace → RecordedJob → Option Operation → Option ShapeFault
fault_of_ready ns d None = None
fault_of_ready ns d (Some op) = ready_fault ns d op

-- the same of any job, by what the checks say of it
abbrev pub fault_by_plan : Namespace → Job → RecordedJob → Option Statuses → Option ShapeFault
fault_by_plan ns job d (Some refusal) = refused_fault refusal d
fault_by_plan ns job d None = fault_of_ready ns d (job_operation_of ns job)

-- what is first wrong with what is recorded of the job, if it hasn't the shape of an outcome
abbrev pub shape_fault : Namespace → Job → RecordedJob → Option ShapeFault
shape_fault ns job d = fault_by_plan ns job d (refusal_of ns job)
