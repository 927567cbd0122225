-- What is printed of a record: the lines of its commands, in the order of the jobs and not in that of the workers, each by what is
-- recorded of the command's job.
use Rattle.std.specs.Prelude.{◌≡◌, ℕ, ◌+◌, List, [], ◌∷◌}
use Rattle.nvm_plan.specs.Completions.{completions_of}
use Rattle.nvm_plan.specs.declared.completions.Completions.{Completions}
use Rattle.nvm_plan.specs.declared.job.Job.{Job}
use Rattle.nvm_audit.specs.RecordedJob.{RecordedJob}
use Rattle.nvm_audit.specs.RecordView.{RecordView}
use Rattle.nvm_audit.specs.DoneJobs.{IsDoneJob}
use Rattle.nvm_engine.specs.Lines.{job_lines}
use Rattle.nvm_engine.specs.UnderLine.{Lists}
use Rattle.nvm_engine.specs.declared.form.Form.{Form}
use Rattle.nvm_engine.specs.declared.form.Form.TheVariants.{Short}

-- These are the completions of the job of this number, by the statuses and the data that are recorded of it.
pub record IsTold (done : List (List RecordedJob)) (number : ℕ) (job : Job) (told : Completions) : Type 0 where
  pub its : RecordedJob
  pub is : IsDoneJob done number its
  pub completions : told ≡ completions_of job its.statuses its.payload

-- These are the completions of the jobs, the first of which has this number.
abbrev pub AreTold : List (List RecordedJob) → ℕ → List Job → List Completions → Type 0
AreTold done number [] [] = Unit {0}
AreTold done number [] (told ∷ rest) = ⊥
AreTold done number (job ∷ jobs) [] = ⊥
AreTold done number (job ∷ jobs) (told ∷ rest) = IsTold done number job told × AreTold done (number + 1) jobs rest

-- The text is the lines of the record's jobs in this form, by the completions of each and what the lists say.
pub record AreLinesOf (form : Form) (lists : Lists) (r : RecordView) (text : List ℕ) : Type 0 where
  pub told : List Completions
  pub of : AreTold r.done 0 r.jobs told
  pub lines : text ≡ job_lines form lists r.jobs told

-- The text is that of the record, without lists.
abbrev pub IsTextOf : RecordView → List ℕ → Type 0
IsTextOf r text = AreLinesOf Short [] r text
