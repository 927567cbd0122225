-- A whole record file, read from its front: what stands before the jobs, the jobs, the history of each unit, and what each
-- worker did.
use Rattle.std.specs.Prelude.{ℕ, List, [], ◌∷◌, length, Result, Ok, Err}
use Rattle.nvm_geometry.specs.Boundaries.{units_of}
use Rattle.nvm_plan.specs.declared.job.Job.{Job}
use Rattle.nvm_store.specs.HistoryEntry.{HistoryEntry}
use Rattle.nvm_audit.specs.RecordedJob.{RecordedJob}
use Rattle.nvm_audit.specs.RecordView.{RecordView}
use Rattle.nvm_file.specs.declared.frame.Frame.{Frame}
use Rattle.nvm_file.specs.declared.record_fault.RecordFault.{RecordFault}
use Rattle.nvm_file.specs.declared.record_fault.RecordFault.TheVariants.{Trailing}
use Rattle.nvm_file.specs.declared.scope.Scope.{Scope}
use Rattle.nvm_file.specs.DoneReading.{work_at}
use Rattle.nvm_file.specs.EntryReading.{history_at}
use Rattle.nvm_file.specs.Fields.{◌>>=◌, offset, items_at}
use Rattle.nvm_file.specs.HeadReading.{head_at}
use Rattle.nvm_file.specs.JobReading.{job_at}

-- what the commands of a file are read by
abbrev pub scope_of : Frame → Scope
scope_of frame = record { total = frame.total; version = frame.version; geometry = frame.geometry }

-- the jobs, each at the place of its number
unfoldable pub jobs_at : Frame → List ℕ → Result (List Job × List ℕ) RecordFault
jobs_at frame bytes = items_at (λ _. job_at (scope_of frame)) 0 frame.jobs bytes

-- the history of each unit, in the order of the units
unfoldable pub units_at : Frame → List ℕ → Result (List (List HistoryEntry) × List ℕ) RecordFault
units_at frame bytes = items_at (history_at frame) 0 (units_of frame.geometry) bytes

-- what each worker did
unfoldable pub workers_at : Frame → List Job → List ℕ → Result (List (List RecordedJob) × List ℕ) RecordFault
workers_at frame jobs bytes = items_at (λ _. work_at frame jobs) 0 frame.workers bytes

-- the record of these items
abbrev pub record_with : Frame → List Job → List (List HistoryEntry) → List (List RecordedJob) → RecordView
record_with frame jobs units done =
    record {
      version = frame.version;
      namespace = frame.geometry;
      limit = frame.limit;
      workers = frame.workers;
      jobs = jobs;
      units = units;
      done = done;
    }

-- the record, where nothing stands behind it
abbrev pub whole : ℕ → RecordView → List ℕ → Result RecordView RecordFault
whole total r [] = Ok r
whole total r (b ∷ bs) = Err (Trailing (offset total (b ∷ bs)))

-- what stands behind the head
unfoldable pub body_of : Frame → List ℕ → Result RecordView RecordFault
body_of frame bytes = do
  jobs ← jobs_at frame bytes
  units ← units_at frame jobs.1
  done ← workers_at frame jobs.0 units.1
  whole frame.total (record_with frame jobs.0 units.0 done.0) done.1

-- what the bytes of a file read as: its record, or the first fault that is met
unfoldable pub record_at : List ℕ → Result RecordView RecordFault
record_at bytes = do
  head ← head_at (length bytes) bytes
  body_of head.0 head.1
