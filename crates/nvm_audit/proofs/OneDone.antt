-- Where a job was done once, what was done of it is one thing, and its shape is all that is looked for.
use Rattle.std.proofs.Common.{◌≡◌, ◌↔◌, ℕ, zero, suc, ◌<◌, ◌≤◌, List, [], ◌∷◌, Bool, IsTrue, length, get_or, cond, sym, ap, subst, ◌∙◌, arith}
use Rattle.std.proofs.lemmas.Bool.Decides.{Decides-eqb}
use Rattle.std.proofs.lemmas.List.Sums.{sum_by-cons}
use Rattle.std.specs.List.{count_by, sum_by}
use mathlib.Core.Option.{some-injective}
use Rattle.nvm_record.specs.Lists.{IsAt}
use Rattle.nvm_plan.specs.declared.job.Job.{Job}
use Rattle.nvm_plan.specs.Shape.{HasOutcomeShape}
use Rattle.nvm_audit.specs.declared.occurrences.Occurrence.{Occurrence}
use Rattle.nvm_audit.specs.declared.occurrences.Occurrence.TheVariants.{Never, Once, Often}
use Rattle.nvm_audit.specs.Inside.Occurrences.{IsDoneJob, IsOccurrence, AreCounted, HasShapeOnce}
use Rattle.nvm_audit.specs.LawfulRecord.{times_done}
use Rattle.nvm_audit.specs.RecordChecks.{HaveShapesOf}
use Rattle.nvm_audit.specs.RecordView.{RecordView}
use Rattle.nvm_audit.specs.RecordedJob.{RecordedJob}
use Rattle.nvm_audit.proofs.Counting.{is_job, read_occurrence}
use Rattle.nvm_audit.proofs.Standing.{none_stands, one_there, read_there}

module _ {A : Type 0} (f : A → ℕ) where
  within_sum : (xs : List A) (i : ℕ) (x : A) → IsAt xs i x → f x ≤ sum_by f xs
  within_sum [] i x at = absurd (none_stands i x at)
  within_sum (y ∷ ys) zero x at =
      let sum = sum_by-cons f y ys in
      let same : f y ≡ f x = ap f (some-injective y x at) in
      omega (arith, sum, same)
  within_sum (y ∷ ys) (suc i) x at =
      let sum = sum_by-cons f y ys in
      let rest = within_sum ys i x at in
      omega (arith, sum, rest)

  -- Where the sum is no more than 1, one thing alone counts.
  one_counts : (xs : List A) (i j : ℕ) (x y : A) → sum_by f xs ≤ 1 → IsAt xs i x → 0 < f x → IsAt xs j y → 0 < f y → x ≡ y
  one_counts [] i j x y one at some there also = absurd (none_stands i x at)
  one_counts (z ∷ zs) zero zero x y one at some there also = sym (some-injective z x at) ∙ some-injective z y there
  one_counts (z ∷ zs) zero (suc j) x y one at some there also =
      let sum = sum_by-cons f z zs in
      let same : f z ≡ f x = ap f (some-injective z x at) in
      let rest = within_sum zs j y there in
      absurd (omega (arith, one, sum, same, rest, some, also))
  one_counts (z ∷ zs) (suc i) zero x y one at some there also =
      let sum = sum_by-cons f z zs in
      let same : f z ≡ f y = ap f (some-injective z y there) in
      let rest = within_sum zs i x at in
      absurd (omega (arith, one, sum, same, rest, some, also))
  one_counts (z ∷ zs) (suc i) (suc j) x y one at some there also =
      let sum = sum_by-cons f z zs in
      one_counts zs i j x y (omega (arith, one, sum)) at some there also

-- whether it is a job of this number, as 1 or 0
abbrev counts : ℕ → RecordedJob → ℕ
counts number d = cond (is_job number d) 1 0

counts_itself : (number : ℕ) (d : RecordedJob) → d.job ≡ number → 0 < counts number d
counts_itself number d is =
    let one : counts number d ≡ 1 = ap (λ b. cond b 1 0) ((Decides-eqb d.job number).1 is) in
    omega (arith, one)

module _ (done : List (List RecordedJob)) (number : ℕ) (once : times_done number done ≡ 1) where
  one_alone : (d e : RecordedJob) → IsDoneJob done number d → IsDoneJob done number e → d ≡ e
  one_alone d e first other =
      let some = within_sum (counts number) first.work first.place d first.there in
      let also = within_sum (counts number) other.work other.place e other.there in
      let one_d = counts_itself number d first.is in
      let one_e = counts_itself number e other.is in
      let same : first.work ≡ other.work =
      one_counts (λ (w : List RecordedJob). count_by (is_job number) w) done first.worker other.worker first.work other.work (omega (arith, once))
      first.by (omega (arith, some, one_d)) other.by (omega (arith, also, one_e)) in
      let few = within_sum (λ (w : List RecordedJob). count_by (is_job number) w) done first.worker first.work first.by in
      one_counts (counts number) first.work first.place other.place d e (omega (arith, few, once)) first.there one_d
      (subst (λ (w : List RecordedJob). IsAt w other.place e) (sym same) other.there) one_e

module _ (r : RecordView) (number : ℕ) (once : times_done number r.done ≡ 1) (job : Job) (its : IsAt r.jobs number job) where
  module _ (d : RecordedJob) (does : IsDoneJob r.done number d) where
    all_shaped : HasOutcomeShape r.namespace job d.parts d.statuses d.payload → HaveShapesOf r number
    all_shaped shape worker work k e by there is =
        let same = one_alone r.done number once d e does (record { is = is; worker = worker; work = work; place = k; by = by; there = there }) in
        record {
          job = job;
          its = subst (λ (n : ℕ). IsAt r.jobs n job) (sym is) its;
          shape = subst (λ (x : RecordedJob). HasOutcomeShape r.namespace job x.parts x.statuses x.payload) same shape;
        }

    shape_of_all : HaveShapesOf r number → HasOutcomeShape r.namespace job d.parts d.statuses d.payload
    shape_of_all all =
        let shaped = all does.worker does.work does.place d does.by does.there does.is in
        let same : shaped.job ≡ job = one_there r.jobs number shaped.job job (subst (λ (n : ℕ). IsAt r.jobs n shaped.job) does.is shaped.its) its in
        subst (λ (x : Job). HasOutcomeShape r.namespace x d.parts d.statuses d.payload) same shaped.shape

  -- Of a job that was done once, one shape is looked at.
  pub shape_once : (o : Occurrence) → IsOccurrence r.done number (times_done number r.done) o
      → HasShapeOnce r.namespace job o ↔ HaveShapesOf r number
  shape_once Never is = absurd (omega (arith, once, is))
  shape_once (Once d) is = (all_shaped d.now is.1, shape_of_all d.now is.1)
  shape_once Often is = absurd (omega (arith, once, is))

-- What was found of the job of this number is so of all that was done of it.
pub shape_read : (r x : RecordView) → x ≡ r → (found : List Occurrence) (number : ℕ) (job d : Job) (o e : Occurrence) (right : Bool)
    → AreCounted (length r.jobs) r.done found → ((n : ℕ) → n < length r.jobs → times_done n r.done ≡ 1) → number < length x.jobs
    → job ≡ get_or x.jobs number d → o ≡ get_or found number e → IsTrue right ↔ HasShapeOnce x.namespace job o
    → IsTrue right ↔ HaveShapesOf r number
shape_read r x same found number job d o e right counted once lt read read_o tells =
    let lt' : number < length r.jobs = subst (λ (y : RecordView). number < length y.jobs) same lt in
    let its : IsAt r.jobs number job =
    subst (λ (y : RecordView). IsAt y.jobs number job) same
    (subst (λ (z : Job). IsAt x.jobs number z) (sym read) (read_there x.jobs number d lt)) in
    let here : IsTrue right ↔ HasShapeOnce r.namespace job o =
    subst (λ (y : RecordView). IsTrue right ↔ HasShapeOnce y.namespace job o) same tells in
    let all = shape_once r number (once number lt') job its o
    (read_occurrence (length r.jobs) r.done found number o e counted (omega (arith, lt', counted.long)) read_o) in
    (λ yes. all.0 (here.0 yes), λ shaped. here.1 (all.1 shaped))
