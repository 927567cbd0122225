-- From what ports did to the record of it.
use Rattle.std.specs.Prelude.{◌≡◌, ℕ, ◌<◌, ◌≤◌, List, length, Some, All}
use Rattle.nvm_record.specs.Deeds.{IsAct}
use Rattle.nvm_record.specs.Lists.{IsAt}
use Rattle.nvm_geometry.specs.Boundaries.{units_of}
use Rattle.nvm_geometry.specs.Namespace.{Namespace}
use Rattle.nvm_plan.specs.declared.job.Job.{Job}
use Rattle.nvm_plan.specs.JobPart.{job_part_in}
use Rattle.nvm_plan.specs.Shape.{IsForEach}
use Rattle.nvm_store.specs.HistoryEntry.{HistoryEntry}
use Rattle.nvm_audit.specs.Recordable.{most_jobs, IsLongAsRead}
use Rattle.nvm_audit.specs.RecordedJob.{RecordedJob}
use Rattle.nvm_audit.specs.RecordView.{RecordView}
use Rattle.nvm_audit.specs.declared.version.Version.TheVariants as version
use Rattle.nvm_c.specs.Recorded.{IsSomebodys}
use Rattle.nvm_c.specs.declared.record_code.RecordCode.{RecordCode}
use Rattle.nvm_c.specs.declared.record_code.RecordCode.TheVariants.{Done, NotOpen, NoMemory, Busy, Unlawful, ShortRoom, OtherPorts, NoRecord, RecordFull}

-- The code of what goes wrong once all that the ports did is there.
abbrev pub IsLate : RecordCode → Type 0
IsLate Done = ⊥
IsLate ShortRoom = ⊥
IsLate NotOpen = ⊥
IsLate Busy = ⊥
IsLate NoRecord = ⊥
IsLate RecordFull = ⊥
IsLate OtherPorts = ⊥
IsLate Unlawful = Unit {0}
IsLate NoMemory = Unit {0}

-- The entry is the part of one of the jobs in the unit, which changes it, and one of so many workers made it.
pub record IsEntryOf (ns : Namespace) (jobs : List Job) (workers unit : ℕ) (entry : HistoryEntry) : Type 0 where
  pub job : Job
  pub its : IsAt jobs entry.job job
  pub part : job_part_in ns job unit ≡ Some entry.operation
  pub act : IsAct entry.operation.deed
  pub pass : entry.pass < workers

-- The history of the unit is within the limit, and has such entries alone.
pub record IsHistoryOf (ns : Namespace) (most : ℕ) (jobs : List Job) (workers unit : ℕ) (history : List HistoryEntry) : Type 0 where
  pub few : length history ≤ most
  pub each : All (IsEntryOf ns jobs workers unit) history

-- A record can hold what was done of this job.
pub record HoldsFor (ns : Namespace) (job : Job) (did : RecordedJob) : Type 0 where
  pub few : length did.parts ≤ units_of ns
  pub units : All (λ part. part.unit < units_of ns) did.parts
  pub statuses : IsForEach job.body did.statuses
  pub payload : (bytes : List ℕ) → did.payload ≡ Some bytes → IsLongAsRead ns job bytes

-- A record of these jobs can hold what was done of one.
pub record CanHold (ns : Namespace) (jobs : List Job) (did : RecordedJob) : Type 0 where
  pub job : Job
  pub its : IsAt jobs did.job job
  pub holds : HoldsFor ns job did

-- A record of these jobs can hold what a worker did.
pub record CanHoldWork (ns : Namespace) (jobs : List Job) (work : List RecordedJob) : Type 0 where
  pub few : length work ≤ most_jobs
  pub each : All (CanHold ns jobs) work

-- The record is of what the ports did, whether or not it is lawful.
pub record IsGathered (ns : Namespace) (most : ℕ) (theirs : List (List Job)) (did : List (List RecordedJob)) (r : RecordView) : Type 0 where
  pub version : r.version ≡ version.Two
  pub namespace : r.namespace ≡ ns
  pub limit : r.limit ≡ most
  pub workers : r.workers ≡ length did
  pub done : r.done ≡ did
  pub each : (number : ℕ) (job : Job) → IsAt r.jobs number job → IsSomebodys theirs did number job
