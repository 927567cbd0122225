-- What contracts see of a record: a finished run, as its file shows it (own).
use Rattle.std.specs.Prelude.{ℕ, List}
use Rattle.nvm_geometry.specs.Namespace.{Namespace}
use Rattle.nvm_plan.specs.declared.job.Job.{Job}
use Rattle.nvm_store.specs.HistoryEntry.{HistoryEntry}
use Rattle.nvm_audit.specs.declared.version.Version.{Version}
use Rattle.nvm_audit.specs.RecordedJob.{RecordedJob}

-- The version of the file that holds it, the namespace, how many entries a unit's history may have, how many workers there
-- were, and the jobs, each at the place of its number. Then the history of each unit, at the place of the unit, and what each
-- worker did, in its order, at the place of the worker.
pub record RecordView : Type 0 where
  pub version : Version
  pub namespace : Namespace
  pub limit : ℕ
  pub workers : ℕ
  pub jobs : List Job
  pub units : List (List HistoryEntry)
  pub done : List (List RecordedJob)
