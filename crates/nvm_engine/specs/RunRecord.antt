-- The record of a run (own).
use Rattle.std.specs.Prelude.{◌≡◌, ℕ, ◌<◌, List, AllPairs}
use Rattle.nvm_record.specs.Lists.{IsAt}
use Rattle.nvm_geometry.specs.Namespace.{Namespace}
use Rattle.nvm_plan.specs.declared.job.Job.{Job}
use Rattle.nvm_plan.specs.Reply.{Reply}
use Rattle.nvm_audit.specs.declared.version.Version.TheVariants.{Two}
use Rattle.nvm_audit.specs.LawfulRecord.{IsLawfulRecord}
use Rattle.nvm_audit.specs.RecordedJob.{RecordedJob}
use Rattle.nvm_audit.specs.RecordView.{RecordView}
use Rattle.nvm_audit.specs.ReplyAtPoint.{AreRepliesOf}

-- The record is that of a run of exactly these jobs by `count` workers, on this namespace, where a unit's history may have `most`
-- entries. It is lawful. What it has of each job is the outcome of the replies to the job's parts, each at its point. Each worker
-- did its jobs in the order of their numbers, so one worker alone does all in their order.
pub record IsRecordOfRun (ns : Namespace) (most count : ℕ) (asked : List Job) (r : RecordView) : Type 0 where
  pub version : r.version ≡ Two
  pub namespace : r.namespace ≡ ns
  pub limit : r.limit ≡ most
  pub workers : r.workers ≡ count
  pub jobs : r.jobs ≡ asked
  pub lawful : IsLawfulRecord r
  pub outcomes : (worker : ℕ) (work : List RecordedJob) (k : ℕ) (d : RecordedJob) → IsAt r.done worker work → IsAt work k d
      → (replies : List Reply) × AreRepliesOf r d replies
  pub rises : (worker : ℕ) (work : List RecordedJob) → IsAt r.done worker work → AllPairs (λ d e. d.job < e.job) work
