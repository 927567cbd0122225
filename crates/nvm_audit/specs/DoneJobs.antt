-- The done jobs of a record in the order of the jobs, and not in that of the workers.
use Rattle.std.specs.Prelude.{◌≡◌, ℕ, ◌+◌, List, [], ◌∷◌}
use Rattle.nvm_record.specs.Lists.{IsAt}
use Rattle.nvm_plan.specs.declared.job.Job.{Job}
use Rattle.nvm_audit.specs.RecordedJob.{RecordedJob}

-- Some worker did the job of this number so. In a lawful record that is one done job, since each job is done once.
pub record IsDoneJob (done : List (List RecordedJob)) (number : ℕ) (its : RecordedJob) : Type 0 where
  pub number_is : its.job ≡ number
  pub worker : ℕ
  pub work : List RecordedJob
  pub place : ℕ
  pub by : IsAt done worker work
  pub there : IsAt work place its

-- The jobs were done so, and the first of them has this number.
abbrev pub AreDone : List (List RecordedJob) → ℕ → List Job → List RecordedJob → Type 0
AreDone done number [] [] = Unit {0}
AreDone done number [] (its ∷ more) = ⊥
AreDone done number (job ∷ jobs) [] = ⊥
AreDone done number (job ∷ jobs) (its ∷ more) = IsDoneJob done number its × AreDone done (number + 1) jobs more
