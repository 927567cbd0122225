-- The record of a run, before it is known to be lawful.
use Rattle.std.specs.Prelude.{ℕ, ◌<◌, List, All, AllPairs}
use Rattle.nvm_geometry.specs.Namespace.{Namespace}
use Rattle.nvm_plan.specs.declared.job.Job.{Job}
use Rattle.nvm_store.specs.HistoryEntry.{HistoryEntry}
use Rattle.nvm_space.specs.Ports.{PortState}
use Rattle.nvm_space.specs.Spaces.{SpaceName}
use Rattle.nvm_audit.specs.declared.version.Version.TheVariants.{Two}
use Rattle.nvm_audit.specs.RecordedJob.{RecordedJob}
use Rattle.nvm_audit.specs.RecordView.{RecordView}
use Rattle.nvm_engine.specs.Gathered.{IsGathered}

abbrev pub run_record : Namespace → ℕ → ℕ → List Job → List (List HistoryEntry) → List (List RecordedJob) → RecordView
run_record ns limit workers jobs units done =
    record {
      version = Two;
      namespace = ns;
      limit = limit;
      workers = workers;
      jobs = jobs;
      units = units;
      done = done;
    }

-- It is gathered from what some space's ports and units ended with, and each worker did its jobs in the order of their numbers.
pub record IsOfWorkers (r : RecordView) : Type 0 where
  pub space : SpaceName
  pub ports : List PortState
  pub gathered : IsGathered space ports r
  pub rises : All (λ work. AllPairs (λ d e. d.job < e.job) work) r.done
