-- Lines that go to a writer, one job after the other, and the line of the verdict after them.
use Rattle.std.proofs.Common.{◌≡◌, ℕ, ◌+◌, ◌≤◌, ◌<◌, List, [], ◌++◌, Option, get_or, length, refl, sym, subst, ◌∙◌, append_assoc}
use Rattle.std.specs.Io.KnownBytes.{Appends}
use Rattle.std.proofs.KnownBytes.{Appends-nil, Appends-trans}
use Rattle.nvm_record.specs.Lists.{IsAt}
use Rattle.nvm_text.specs.Handed.{TakesFront}
use Rattle.nvm_text.proofs.Taking.{takes_within, takes_behind}
use Rattle.nvm_plan.specs.Completions.{completions_of}
use Rattle.nvm_plan.specs.declared.job.Job.{Job}
use Rattle.nvm_audit.specs.RecordedJob.{RecordedJob}
use Rattle.nvm_audit.specs.RecordView.{RecordView}
use Rattle.nvm_audit.specs.Verdict.{IsVerdict}
use Rattle.nvm_audit.specs.declared.verdict.Verdict.{Verdict}
use Rattle.nvm_audit.proofs.Places.{stands_read}
use Rattle.nvm_audit.specs.DoneJobs.{IsDoneJob}
use Rattle.nvm_audit.specs.DonePlaces.{AreDonePlaces}
use Rattle.nvm_audit.specs.declared.done_jobs.DonePlace.{DonePlace}
use Rattle.nvm_audit.proofs.Reading.{placed_done}
use Rattle.nvm_audit.proofs.DoneWalk.{IsWalk, all_walked, none_walked, one_walked, rest_walked}
use Rattle.nvm_engine.specs.Lines.{after_body, body_lines}
use Rattle.nvm_engine.specs.Printed.{IsPrintedIn}
use Rattle.nvm_engine.specs.RecordLines.{AreLinesOf}
use Rattle.nvm_engine.specs.UnderLine.{Lists}
use Rattle.nvm_engine.specs.VerdictLine.{lawful_line}
use Rattle.nvm_engine.specs.declared.form.Form.{Form}
use Rattle.nvm_engine.proofs.Told.{lines_made, lines_of}

-- The job that was read of these jobs is at its number among those of the record.
pub read_job : (r : RecordView) (jobs : List Job) (number : ℕ) (job : Job) → jobs ≡ r.jobs → number < length jobs
    → job ≡ get_or jobs number job → IsAt r.jobs number job
read_job r jobs number job same low is = subst (λ (js : List Job). IsAt js number job) same (stands_read jobs number job low is)

module _ (form : Form) (start : Lists) (r : RecordView) where
  -- Some text was taken, which is that of the jobs before this one, and the lists say this of the others.
  abbrev pub HasWritten : Option (List ℕ) → Option (List ℕ) → ℕ → Lists → Type 0
  HasWritten a b number lists =
      (text : List ℕ) × Appends a b text × IsWalk (lines_made form) start r.jobs r.done number lists text

  pub none_written : (a : Option (List ℕ)) → HasWritten a a 0 start
  none_written a = ([], Appends-nil a, none_walked (lines_made form) start r.jobs r.done [] refl)

  module _ (number : ℕ) (job : Job) (d e : RecordedJob) (of : IsAt r.jobs number job) (seen : d ≡ e) (is : IsDoneJob r.done number e)
      (lists : Lists) where
    abbrev lines : List ℕ
    lines = body_lines form lists job.host job.body (completions_of job d.statuses d.payload)

    walked : (after : Lists) (old : List ℕ) → after ≡ after_body lists job.host job.body
        → IsWalk (lines_made form) start r.jobs r.done number lists old
        → IsWalk (lines_made form) start r.jobs r.done (number + 1) after (old ++ lines)
    walked after old left walk =
        one_walked (lines_made form) start r.jobs r.done number job d lists after old (old ++ lines) of
        (subst (λ (x : RecordedJob). IsDoneJob r.done number x) (sym seen) is) walk left refl

    -- The lines of this job were taken too.
    pub one_more : (after : Lists) (a b c : Option (List ℕ)) → HasWritten a b number lists → Appends b c lines
        → after ≡ after_body lists job.host job.body → HasWritten a c (number + 1) after
    one_more after a b c (old, before, walk) item left =
        (old ++ lines, Appends-trans a b c old lines before item, walked after old left walk)

    -- Of the lines of this job a front was taken. It is a front of the whole text, since of each job after it there are lines.
    pub within_one : (places : List DonePlace) → AreDonePlaces r places → (a b c : Option (List ℕ)) → HasWritten a b number lists
        → TakesFront b c lines → (text : List ℕ) × AreLinesOf form start r text × TakesFront a c text
    within_one places found a b c (old, before, walk) failed =
        let (its, were, rest, whole) =
        rest_walked (lines_made form) start r.jobs r.done (number + 1) (after_body lists job.host job.body) (old ++ lines)
        (λ n lt. placed_done r.done places n (found n lt)) (walked (after_body lists job.host job.body) old refl walk) in (
          old ++ (lines ++ rest),
          lines_of form start r (old ++ (lines ++ rest)) its were (sym (append_assoc old lines rest) ∙ whole),
          takes_behind a b c old (lines ++ rest) before (takes_within b c lines rest failed),
        )

  pub all_written : (a b : Option (List ℕ)) (number : ℕ) (lists : Lists) → length r.jobs ≤ number → HasWritten a b number lists
      → (text : List ℕ) × AreLinesOf form start r text × Appends a b text
  all_written a b number lists past (text, taken, walk) =
      let (its, were, are) = all_walked (lines_made form) start r.jobs r.done number lists text past walk in
      (text, lines_of form start r text its were are, taken)

  -- The verdict is that of the record.
  module _ (verdict : Verdict) (counted : IsVerdict r verdict) where
    printed : (lines : List ℕ) → AreLinesOf form start r lines → IsPrintedIn form start r (lines ++ lawful_line verdict)
    printed lines of = record { lines = lines; of = of; verdict = verdict; counted = counted; whole = refl }

    -- Of the lines a front was taken.
    pub within_lines : (a b : Option (List ℕ)) → ((text : List ℕ) × AreLinesOf form start r text × TakesFront a b text)
        → (text : List ℕ) × IsPrintedIn form start r text × TakesFront a b text
    within_lines a b (lines, of, failed) =
        (lines ++ lawful_line verdict, printed lines of, takes_within a b lines (lawful_line verdict) failed)

    -- Of the verdict's line a front was taken.
    pub within_verdict : (a b c : Option (List ℕ)) → ((text : List ℕ) × AreLinesOf form start r text × Appends a b text)
        → TakesFront b c (lawful_line verdict) → (text : List ℕ) × IsPrintedIn form start r text × TakesFront a c text
    within_verdict a b c (lines, of, taken) failed =
        (lines ++ lawful_line verdict, printed lines of, takes_behind a b c lines (lawful_line verdict) taken failed)

    pub all_printed : (a b c : Option (List ℕ)) → ((text : List ℕ) × AreLinesOf form start r text × Appends a b text)
        → Appends b c (lawful_line verdict) → (text : List ℕ) × IsPrintedIn form start r text × Appends a c text
    all_printed a b c (lines, of, taken) end =
        (lines ++ lawful_line verdict, printed lines of, Appends-trans a b c lines (lawful_line verdict) taken end)
