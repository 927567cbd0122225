-- What is made of the jobs of a record and their done jobs, one after the other.
use Rattle.std.proofs.Common.{◌≡◌, ℕ, zero, suc, ◌+◌, ◌<◌, ◌≤◌, List, [], ◌∷◌, ◌++◌, length, drop, sym, ap, ◌∙◌, append_assoc, append-nil, subst, arith}
use Rattle.std.proofs.Math.ListN.{drop_of_length-le}
use Rattle.std.proofs.lemmas.List.{length-drop}
use mathlib.Core.Option.{some-injective, some-ne-none}
use Rattle.nvm_record.specs.Lists.{IsAt}
use Rattle.nvm_plan.specs.declared.job.Job.{Job}
use Rattle.nvm_audit.specs.RecordedJob.{RecordedJob}
use Rattle.nvm_audit.specs.DoneJobs.{IsDoneJob, AreDone}
use Rattle.nvm_audit.proofs.OneList.{done_some}

cut_there : (jobs : List Job) (number : ℕ) (job : Job) → IsAt jobs number job → drop number jobs ≡ job ∷ drop (suc number) jobs
cut_there [] number job there = absurd (some-ne-none job (sym there))
cut_there (other ∷ jobs) zero job there = ap (λ (j : Job). j ∷ jobs) (some-injective other job there)
cut_there (other ∷ jobs) (suc number) job there = cut_there jobs number job there

-- the jobs from one on
cut_at : (jobs : List Job) (number : ℕ) (job : Job) → IsAt jobs number job → drop number jobs ≡ job ∷ drop (number + 1) jobs
cut_at jobs number job there =
    let next : suc number ≡ number + 1 = omega arith in cut_there jobs number job there ∙ ap (λ (n : ℕ). job ∷ drop n jobs) next

-- How a list is made of jobs and their done jobs, where each job leaves something to the next ones: what is made of one job, what it
-- leaves, and what is made of all.
pub record Making (S A : Type 0) : Type 0 where
  pub made : S → Job → RecordedJob → List A
  pub left : S → Job → S
  pub all : S → List Job → List RecordedJob → List A
  pub none : (s : S) → all s [] [] ≡ []
  pub more : (s : S) (job : Job) (jobs : List Job) (d : RecordedJob) (its : List RecordedJob)
      → all s (job ∷ jobs) (d ∷ its) ≡ made s job d ++ all (left s job) jobs its

module _ {S A : Type 0} (making : Making S A) (start : S) (jobs : List Job) (done : List (List RecordedJob)) where
  -- It was made of the jobs before this number, and this is left: with what is made of the others it is what is made of all.
  pub record IsWalk (number : ℕ) (s : S) (so_far : List A) : Type 0 where
    pub completes : (more : List RecordedJob) → AreDone done number (drop number jobs) more
        → (its : List RecordedJob) × AreDone done 0 jobs its × (so_far ++ making.all s (drop number jobs) more ≡ making.all start jobs its)

  pub none_walked : (so_far : List A) → so_far ≡ [] → IsWalk 0 start so_far
  none_walked so_far none = record {
    completes = λ more were. (more, were, ap (λ (xs : List A). xs ++ making.all start jobs more) none);
  }

  pub one_walked : (number : ℕ) (job : Job) (d : RecordedJob) (s t : S) (old new : List A) → IsAt jobs number job → IsDoneJob done number d
      → IsWalk number s old → t ≡ making.left s job → new ≡ old ++ making.made s job d → IsWalk (number + 1) t new
  one_walked number job d s t old new of is so_far left made = record {
    completes =
        λ more were.
        let rest = drop (number + 1) jobs in
        let cut : drop number jobs ≡ job ∷ rest = cut_at jobs number job of in
        let whole =
        so_far.completes (d ∷ more) (subst (λ (js : List Job). AreDone done number js (d ∷ more)) (sym cut) (is, were)) in
        let step : making.all s (drop number jobs) (d ∷ more) ≡ making.made s job d ++ making.all t rest more =
        ap (λ (js : List Job). making.all s js (d ∷ more)) cut ∙ making.more s job rest d more
        ∙ ap (λ (u : S). making.made s job d ++ making.all u rest more) (sym left) in (
          whole.0,
          whole.1,
          ap (λ (xs : List A). xs ++ making.all t rest more) made ∙ append_assoc old (making.made s job d) (making.all t rest more)
              ∙ ap (λ (xs : List A). old ++ xs) (sym step) ∙ whole.2,
        );
  }

  -- Where each job was done, what is made of the others can be given.
  pub rest_walked : (number : ℕ) (s : S) (so_far : List A) → ((n : ℕ) → n < length jobs → (d : RecordedJob) × IsDoneJob done n d)
      → IsWalk number s so_far
      → (its : List RecordedJob) × AreDone done 0 jobs its × (rest : List A) × (so_far ++ rest ≡ making.all start jobs its)
  rest_walked number s so_far each walk =
      let (more, were) =
      done_some done number (drop number jobs) (λ k lt. each (number + k) (omega (arith, lt, length-drop number jobs))) in
      let whole = walk.completes more were in
      (whole.0, whole.1, making.all s (drop number jobs) more, whole.2)

  pub all_walked : (number : ℕ) (s : S) (so_far : List A) → length jobs ≤ number → IsWalk number s so_far
      → (its : List RecordedJob) × AreDone done 0 jobs its × (so_far ≡ making.all start jobs its)
  all_walked number s so_far past walk =
      let end : drop number jobs ≡ [] = drop_of_length-le jobs past in
      let whole = walk.completes [] (subst (λ (js : List Job). AreDone done number js []) (sym end) tt) in
      let none : making.all s (drop number jobs) [] ≡ [] = ap (λ (js : List Job). making.all s js []) end ∙ making.none s in
      (whole.0, whole.1, sym (append-nil so_far) ∙ ap (λ (xs : List A). so_far ++ xs) (sym none) ∙ whole.2)
