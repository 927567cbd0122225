-- What a record file can hold, whether or not any run was so (own). Each record holds exactly this, by its type. The first
-- version of the file is older than Dataset Management: opcode 09h is an unknown one there. That each number fits its field (a
-- point 4 bytes, a status 1 and 1) isn't said here, since the Rust type of the field says it.
use Rattle.std.specs.Prelude.{◌≡◌, ◌≢◌, ◌⊎◌, ℕ, ◌*◌, ◌<◌, ◌≤◌, List, length, not, Some, IsTrue}
use Rattle.std.specs.List.{All}
use Rattle.nvm_record.specs.declared.command.Command.{Command}
use Rattle.nvm_record.specs.declared.lba_range.LbaRange.{LbaRange}
use Rattle.nvm_record.specs.declared.op.Op.TheVariants.{Other}
use Rattle.nvm_record.specs.Deeds.{is_read, IsAct, IsOnRange}
use Rattle.nvm_record.specs.Lists.{IsAt}
use Rattle.nvm_record.specs.Op.{carries_ranges}
use Rattle.nvm_record.specs.Ranges.{most_ranges}
use Rattle.nvm_record.specs.Step.{Operation, deallocates}
use Rattle.nvm_geometry.specs.Boundaries.{units_of}
use Rattle.nvm_geometry.specs.Faults.{IsValid}
use Rattle.nvm_geometry.specs.Namespace.{Namespace}
use Rattle.nvm_plan.specs.declared.job.Body.{Body}
use Rattle.nvm_plan.specs.declared.job.Body.TheVariants.{Single, Pair}
use Rattle.nvm_plan.specs.declared.job.Job.{Job}
use Rattle.nvm_plan.specs.Fits.{FitsNamespace}
use Rattle.nvm_plan.specs.JobPart.{ready_operation}
use Rattle.nvm_plan.specs.Shape.{IsForEach}
use Rattle.nvm_plan.specs.UnitPlace.{IsUnitPlace}
use Rattle.nvm_store.specs.declared.place.Place.{Place}
use Rattle.nvm_store.specs.HistoryEntry.{HistoryEntry}
use Rattle.nvm_store.specs.Limit.{IsLimit}
use Rattle.nvm_store.specs.Place.{IsCovered}
use Rattle.nvm_audit.specs.declared.version.Version.{Version}
use Rattle.nvm_audit.specs.declared.version.Version.TheVariants.{One, Two}
use Rattle.nvm_audit.specs.RecordedJob.{RecordedJob}
use Rattle.nvm_audit.specs.RecordView.{RecordView}

-- the most workers of a run
abbrev pub most_workers : ℕ
most_workers = 64

-- the most jobs of a record, and of each of its workers
abbrev pub most_jobs : ℕ
most_jobs = 4194304

-- the highest limit that the two bytes of the first version hold, which are the limit less 1
abbrev pub most_entries_of_two_bytes : ℕ
most_entries_of_two_bytes = 65536

-- The version has room for the limit.
abbrev pub HoldsLimit : Version → ℕ → Type 0
HoldsLimit One limit = (1 ≤ limit) × (limit ≤ most_entries_of_two_bytes)
HoldsLimit Two limit = IsLimit limit

-- The version has this command: the first no Dataset Management, the second no unknown opcode 09h.
abbrev pub HoldsCommand : Version → Command → Type 0
HoldsCommand One c = IsTrue (not (carries_ranges c.op))
HoldsCommand Two c = c.op ≢ Other 9

abbrev pub HoldsBody : Version → Body → Type 0
HoldsBody version (Single c) = HoldsCommand version c
HoldsBody version (Pair c d) = HoldsCommand version c × HoldsCommand version d

-- The job fits the namespace, and the version has its commands.
pub record IsRecordableJob (r : RecordView) (job : Job) : Type 0 where
  pub fits : FitsNamespace r.namespace job
  pub known : HoldsBody r.version job.body

-- The operation is a Deallocate on the whole unit, with no more ranges than a command has. The file keeps its ranges alone.
pub record IsDeallocateOfUnit (place : Place) (op : Operation) : Type 0 where
  pub ranges : List LbaRange
  pub deed : op.deed ≡ deallocates ranges
  pub first : op.first ≡ place.first
  pub blocks : op.blocks ≡ place.blocks
  pub few : length ranges ≤ most_ranges

-- The version has an entry of this kind: the first one on a range, the second a Deallocate too.
abbrev pub HoldsKind : Version → Place → Operation → Type 0
HoldsKind One place op = IsOnRange op.deed
HoldsKind Two place op = IsOnRange op.deed ⊎ IsDeallocateOfUnit place op

-- The entry is one that some worker may have made of some job in the unit that lies there: its operation changes blocks of
-- this unit alone.
pub record IsRecordableEntry (r : RecordView) (place : Place) (entry : HistoryEntry) : Type 0 where
  pub pass : entry.pass < r.workers
  pub job : entry.job < length r.jobs
  pub act : IsAct entry.operation.deed
  pub covered : IsCovered place entry.operation
  pub kind : HoldsKind r.version place entry.operation

-- The history of the unit is within the limit, and each entry may be there.
pub record IsRecordableHistory (r : RecordView) (unit : ℕ) (history : List HistoryEntry) : Type 0 where
  pub few : length history ≤ r.limit
  pub place : Place
  pub lies : IsUnitPlace r.namespace unit place
  pub each : All (IsRecordableEntry r place) history

-- The bytes are of the length of the blocks of this job, which is a Read by itself that no check refuses.
pub record IsLongAsRead (ns : Namespace) (job : Job) (bytes : List ℕ) : Type 0 where
  pub op : Operation
  pub ready : ready_operation ns job ≡ Some op
  pub read : IsTrue (is_read op.deed)
  pub whole : length bytes ≡ op.blocks * ns.block_size

-- What is recorded of a done job: which of the jobs it is, parts in units of the namespace and no more than there are units, a
-- status for each of its commands, and data of a Read alone. The points and results of parts, and the statuses, may be any.
pub record IsRecordableDone (r : RecordView) (done : RecordedJob) : Type 0 where
  pub job : Job
  pub its : IsAt r.jobs done.job job
  pub few : length done.parts ≤ units_of r.namespace
  pub units : All (λ part. part.unit < units_of r.namespace) done.parts
  pub statuses : IsForEach job.body done.statuses
  pub payload : (bytes : List ℕ) → done.payload ≡ Some bytes → IsLongAsRead r.namespace job bytes

-- What a worker did.
pub record IsRecordableWork (r : RecordView) (work : List RecordedJob) : Type 0 where
  pub few : length work ≤ most_jobs
  pub each : All (IsRecordableDone r) work

-- A record file of its version can hold the record.
pub record IsRecordable (r : RecordView) : Type 0 where
  pub namespace : IsValid r.namespace
  pub limit : HoldsLimit r.version r.limit
  pub some_worker : 1 ≤ r.workers
  pub few_workers : r.workers ≤ most_workers
  pub few_jobs : length r.jobs ≤ most_jobs
  pub jobs : All (IsRecordableJob r) r.jobs
  pub all_units : length r.units ≡ units_of r.namespace
  pub units : (unit : ℕ) (history : List HistoryEntry) → IsAt r.units unit history → IsRecordableHistory r unit history
  pub all_workers : length r.done ≡ r.workers
  pub done : All (IsRecordableWork r) r.done

-- The data of each Read that is recorded is as long as the Read's blocks.
abbrev pub HoldsWholeReads : RecordView → Type 0
HoldsWholeReads r =
    (worker : ℕ) (work : List RecordedJob) (k : ℕ) (done : RecordedJob) (job : Job) (op : Operation) (bytes : List ℕ)
    → IsAt r.done worker work → IsAt work k done → IsAt r.jobs done.job job → ready_operation r.namespace job ≡ Some op
    → done.payload ≡ Some bytes → length bytes ≡ op.blocks * r.namespace.block_size
