-- The record of a lawful run is one of exactly its jobs, and can be held.
use Rattle.std.proofs.Common.{ℕ, ◌<◌, ◌≤◌, List, length, All, AllPairs, refl}
use Rattle.nvm_record.specs.Lists.{IsAt}
use Rattle.nvm_geometry.specs.Namespace.{Namespace}
use Rattle.nvm_plan.specs.declared.job.Job.{Job}
use Rattle.nvm_plan.specs.Reply.{Reply}
use Rattle.nvm_store.specs.HistoryEntry.{HistoryEntry}
use Rattle.nvm_audit.specs.declared.version.Version.TheVariants.{Two}
use Rattle.nvm_audit.specs.LawfulRecord.{IsLawfulRecord}
use Rattle.nvm_audit.specs.Recordable.{most_jobs, HoldsBody, HoldsLimit, IsRecordable}
use Rattle.nvm_audit.specs.RecordedJob.{RecordedJob}
use Rattle.nvm_audit.specs.RecordView.{RecordView}
use Rattle.nvm_audit.specs.ReplyAtPoint.{AreRepliesOf}
use Rattle.nvm_engine.specs.Inside.Gathering.{run_record, IsOfWorkers}
use Rattle.nvm_engine.specs.RunRecord.{IsRecordOfRun}
use Rattle.nvm_engine.proofs.Places.{all_at}

module _ (ns : Namespace) (limit workers : ℕ) (jobs : List Job) (units : List (List HistoryEntry)) (done : List (List RecordedJob))
    (of : IsOfWorkers (run_record ns limit workers jobs units done)) where
  abbrev r : RecordView
  r = run_record ns limit workers jobs units done

  pub record_of_run : ((v : RecordView) (worker k : ℕ) (work : List RecordedJob) (d : RecordedJob) → IsLawfulRecord v
      → IsAt v.done worker work → IsAt work k d → (replies : List Reply) × AreRepliesOf v d replies)
      → IsLawfulRecord r → IsRecordOfRun ns limit workers jobs r
  record_of_run law lawful = record {
    version = refl;
    namespace = refl;
    limit = refl;
    workers = refl;
    jobs = refl;
    lawful = lawful;
    outcomes = λ worker work k d at in_work. law r worker k work d lawful at in_work;
    rises = λ worker work at. all_at (λ (w : List RecordedJob). AllPairs (λ d e. d.job < e.job) w) done worker work of.rises at;
  }

  pub run_is_recordable : ((v : RecordView) → IsLawfulRecord v → HoldsLimit v.version v.limit
      → All (λ job. HoldsBody v.version job.body) v.jobs → length v.jobs ≤ most_jobs → IsRecordable v)
      → IsLawfulRecord r → length jobs ≤ most_jobs → All (λ job. HoldsBody Two job.body) jobs → IsRecordable r
  run_is_recordable law lawful few known = law r lawful lawful.complete.limit known few
