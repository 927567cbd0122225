-- When what was recorded of a part is right at its point of the unit's history (own). A point is how many entries the
-- history had.
use Rattle.std.specs.Prelude.{◌≡◌, ℕ, ◌<◌, ◌≤◌, List, length, Some}
use Rattle.nvm_record.specs.Deeds.{IsAct, IsFailedPair, success_of}
use Rattle.nvm_record.specs.Lists.{IsAt}
use Rattle.nvm_record.specs.Medium.{Medium}
use Rattle.nvm_record.specs.Status.{IsSuccess}
use Rattle.nvm_record.specs.Step.{Operation, statuses_of, data_of}
use Rattle.nvm_geometry.specs.Namespace.{Namespace}
use Rattle.nvm_geometry.specs.Parts.{blocks_below, blocks_in, data_part, part_in}
use Rattle.nvm_plan.specs.declared.job.Job.{Job}
use Rattle.nvm_plan.specs.declared.part.PartResult.{PartResult}
use Rattle.nvm_plan.specs.declared.part.PartResult.TheVariants.{Done, Failed, Looked, NoMemory, Full}
use Rattle.nvm_plan.specs.JobPart.{ready_operation}
use Rattle.nvm_store.specs.HistoryEntry.{HistoryEntry}
use Rattle.nvm_store.specs.Point.{point}
use Rattle.nvm_audit.specs.RecordedPart.{RecordedPart, told_of}

-- The job of this number is done by this operation: no check refuses it.
pub record DoesOperation (ns : Namespace) (jobs : List Job) (number : ℕ) (whole : Operation) : Type 0 where
  pub job : Job
  pub its : IsAt jobs number job
  pub ready : ready_operation ns job ≡ Some whole

-- How a part ended is right, by its unit's history: its statuses, and nothing of its data. One that was done succeeds at its
-- point. One that looked was answered with what the step gives there, and so was a pair whose comparison fails there. One that found no
-- memory, or the history at its limit, did nothing, and would have succeeded there: a pair compares before it asks for either.
-- Memory is asked for only below the limit. Of a look that found no memory nothing is known.
abbrev pub HasRightStatus : ℕ → ℕ → List HistoryEntry → Operation → RecordedPart → PartResult → Type 0
HasRightStatus size limit history op p Done = success_of op.deed ≡ statuses_of op (point size history p.part.point)
HasRightStatus size limit history op p Failed =
    IsFailedPair op (point size history p.part.point) × (told_of p ≡ statuses_of op (point size history p.part.point))
HasRightStatus size limit history op p Looked = told_of p ≡ statuses_of op (point size history p.part.point)
HasRightStatus size limit history op p NoMemory =
    IsAct op.deed → IsSuccess (statuses_of op (point size history p.part.point)) × (p.part.point < limit)
HasRightStatus size limit history op p Full =
    IsSuccess (statuses_of op (point size history p.part.point)) × (p.part.point ≡ limit)

-- those bytes of a Read's data that are of its blocks in the unit
abbrev pub data_in : Namespace → Operation → ℕ → List ℕ → List ℕ
data_in ns whole unit bytes =
    data_part ns.block_size (blocks_below ns whole.first whole.blocks unit) (blocks_in ns whole.first whole.blocks unit) bytes

-- Where the job's data is recorded, this part of it is that of the medium.
abbrev pub HasRightData : Namespace → Operation → Medium → RecordedPart → Type 0
HasRightData ns whole m p =
    (bytes : List ℕ) → p.done.payload ≡ Some bytes
    → data_of (part_in ns whole p.part.unit) m ≡ Some (data_in ns whole p.part.unit bytes)

-- The history has come to the part's point, and what was recorded of the part is right there.
pub record IsRightAtItsPoint (ns : Namespace) (limit : ℕ) (jobs : List Job) (history : List HistoryEntry) (p : RecordedPart) : Type 0 where
  pub whole : Operation
  pub does : DoesOperation ns jobs p.done.job whole
  pub within : p.part.point ≤ length history
  pub status : HasRightStatus ns.block_size limit history (part_in ns whole p.part.unit) p p.part.result
  pub payload : HasRightData ns whole (point ns.block_size history p.part.point) p
