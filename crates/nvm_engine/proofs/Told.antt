-- The completions of jobs, by their done jobs, and the lines that they make, one job after the other.
use Rattle.std.proofs.Common.{◌≡◌, ℕ, ◌+◌, List, [], ◌∷◌, refl}
use Rattle.nvm_plan.specs.Completions.{completions_of}
use Rattle.nvm_plan.specs.declared.completions.Completions.{Completions}
use Rattle.nvm_plan.specs.declared.job.Job.{Job}
use Rattle.nvm_audit.specs.RecordedJob.{RecordedJob}
use Rattle.nvm_audit.specs.RecordView.{RecordView}
use Rattle.nvm_audit.specs.DoneJobs.{AreDone}
use Rattle.nvm_audit.proofs.DoneWalk.{Making}
use Rattle.nvm_engine.specs.Lines.{after_body, body_lines, job_lines}
use Rattle.nvm_engine.specs.RecordLines.{AreLinesOf, AreTold}
use Rattle.nvm_engine.specs.UnderLine.{Lists}
use Rattle.nvm_engine.specs.declared.form.Form.{Form}

abbrev pub told_of : List Job → List RecordedJob → List Completions
told_of [] its = []
told_of (job ∷ jobs) [] = []
told_of (job ∷ jobs) (d ∷ its) = completions_of job d.statuses d.payload ∷ told_of jobs its

module _ (done : List (List RecordedJob)) where
  pub are_told : (number : ℕ) (jobs : List Job) (its : List RecordedJob) → AreDone done number jobs its
      → AreTold done number jobs (told_of jobs its)
  are_told number [] [] were = tt
  are_told number [] (d ∷ its) were = absurd were
  are_told number (job ∷ jobs) [] were = absurd were
  are_told number (job ∷ jobs) (d ∷ its) were =
      (record { its = d; is = were.0; completions = refl }, are_told (number + 1) jobs its were.1)

  -- Completions of jobs are those of their done jobs.
  pub were_told : (number : ℕ) (jobs : List Job) (told : List Completions) → AreTold done number jobs told
      → (its : List RecordedJob) × AreDone done number jobs its × (told ≡ told_of jobs its)
  were_told number [] [] were = ([], tt, refl)
  were_told number [] (x ∷ told) were = absurd were
  were_told number (job ∷ jobs) [] were = absurd were
  were_told number (job ∷ jobs) (x ∷ told) were =
      let (its, after, are) = were_told (number + 1) jobs told were.1 in
      let first : x ≡ completions_of job were.0.its.statuses were.0.its.payload = were.0.completions in
      let rest : told ≡ told_of jobs its = are in
      (were.0.its ∷ its, (were.0.is, after), cc)

-- the lines of jobs in a form, beside what lists say
abbrev pub lines_made : Form → Making Lists ℕ
lines_made form = record {
  made = λ lists job d. body_lines form lists job.host job.body (completions_of job d.statuses d.payload);
  left = λ lists job. after_body lists job.host job.body;
  all = λ lists jobs its. job_lines form lists jobs (told_of jobs its);
  none = λ lists. refl;
  more = λ lists job jobs d its. refl;
}

pub lines_of : (form : Form) (lists : Lists) (r : RecordView) (text : List ℕ) (its : List RecordedJob) → AreDone r.done 0 r.jobs its
    → text ≡ job_lines form lists r.jobs (told_of r.jobs its) → AreLinesOf form lists r text
lines_of form lists r text its were lines =
    record { told = told_of r.jobs its; of = are_told r.done 0 r.jobs its were; lines = lines }
