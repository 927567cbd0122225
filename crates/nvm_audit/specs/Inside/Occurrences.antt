-- How often the jobs of a record were done.
use Rattle.std.specs.Prelude.{◌≡◌, ℕ, ◌<◌, ◌≤◌, List, length}
use Rattle.nvm_record.specs.Lists.{IsAt}
use Rattle.nvm_geometry.specs.Namespace.{Namespace}
use Rattle.nvm_plan.specs.declared.job.Job.{Job}
use Rattle.nvm_plan.specs.Shape.{HasOutcomeShape}
use Rattle.nvm_audit.specs.declared.occurrences.Occurrence.{Occurrence}
use Rattle.nvm_audit.specs.declared.occurrences.Occurrence.TheVariants.{Never, Once, Often}
use Rattle.nvm_audit.specs.LawfulRecord.{times_done}
use Rattle.nvm_audit.specs.RecordedJob.{RecordedJob}

-- Some worker did this, and it is the job of this number.
pub record IsDoneJob (done : List (List RecordedJob)) (number : ℕ) (d : RecordedJob) : Type 0 where
  pub is : d.job ≡ number
  pub worker : ℕ
  pub work : List RecordedJob
  pub place : ℕ
  pub by : IsAt done worker work
  pub there : IsAt work place d

-- It says that the job of this number was done so often.
abbrev pub IsOccurrence : List (List RecordedJob) → ℕ → ℕ → Occurrence → Type 0
IsOccurrence done number times Never = times ≡ 0
IsOccurrence done number times (Once d) = (times ≡ 1) × IsDoneJob done number d.now
IsOccurrence done number times Often = 2 ≤ times

-- It was found that the job of this number was done so often.
pub record IsCounted (done : List (List RecordedJob)) (found : List Occurrence) (number times : ℕ) : Type 0 where
  pub occurrence : Occurrence
  pub its : IsAt found number occurrence
  pub is : IsOccurrence done number times occurrence

-- It was found how often each job below `jobs` was done.
pub record AreCounted (jobs : ℕ) (done : List (List RecordedJob)) (found : List Occurrence) : Type 0 where
  pub long : length found ≡ jobs
  pub each : (number : ℕ) → number < jobs → IsCounted done found number (times_done number done)

-- Each done job is of a job below `jobs`.
abbrev pub AreOfJobs : ℕ → List (List RecordedJob) → Type 0
AreOfJobs jobs done =
    (worker : ℕ) (work : List RecordedJob) (place : ℕ) (d : RecordedJob) → IsAt done worker work → IsAt work place d
    → d.job < jobs

-- What was done of the job, where it was done once, has the shape of its outcome.
abbrev pub HasShapeOnce : Namespace → Job → Occurrence → Type 0
HasShapeOnce ns job Never = Unit {0}
HasShapeOnce ns job (Once d) = HasOutcomeShape ns job d.now.parts d.now.statuses d.now.payload
HasShapeOnce ns job Often = Unit {0}

-- the most entries of a unit's history, whatever its limit
abbrev pub most_entries : ℕ
most_entries = 4194304
