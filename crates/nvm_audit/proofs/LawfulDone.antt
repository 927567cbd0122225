-- A lawful record has one done job of each job.
use Rattle.std.proofs.Common.{◌≡◌, nat_eq, cond, ℕ, zero, suc, ◌+◌, ◌<◌, ◌≤◌, List, [], ◌∷◌, Bool, true, false, length, take, refl, sym, ap, subst, inl, inr, arith}
use Rattle.std.proofs.lemmas.Bool.{cases_lt, eq-eqb, eqb-true}
use Rattle.std.proofs.lemmas.List.Sums.{sum_by-cons, sum_by-take-le}
use Rattle.std.specs.List.{count_by, sum_by}
use Rattle.nvm_record.specs.Lists.{IsAt}
use Rattle.nvm_plan.specs.Shape.{IsForEach}
use Rattle.nvm_plan.specs.declared.job.Job.{Job}
use Rattle.nvm_audit.specs.LawfulRecord.{times_done, IsLawfulRecord}
use Rattle.nvm_audit.specs.Recordable.{IsRecordable, IsRecordableDone, IsRecordableWork}
use Rattle.nvm_audit.specs.RecordedJob.{RecordedJob}
use Rattle.nvm_audit.specs.RecordView.{RecordView}
use Rattle.nvm_audit.proofs.Counting.{is_job, one_more_summed}
use Rattle.nvm_audit.proofs.Places.{take_at}
use Rattle.nvm_audit.proofs.Standing.{all_at, below, one_there}
use Rattle.nvm_audit.specs.DoneJobs.{IsDoneJob}
use Rattle.nvm_audit.specs.DonePlaces.{AreDonePlaces, IsNoted}
use Rattle.nvm_audit.specs.Inside.Noted.{AreNoted}
use Rattle.nvm_audit.specs.declared.done_jobs.DonePlace.{DonePlace}

module _ {A : Type 0} (f : A → ℕ) where
  -- Where a list sums up to something, something in it counts.
  some_counts : (xs : List A) → 0 < sum_by f xs → (i : ℕ) × (x : A) × IsAt xs i x × (0 < f x)
  some_counts [] some = absurd (omega (arith, some))
  some_counts (x ∷ xs) some = by (λ more. some_counts xs more) (f x) refl
    where
      by : (0 < sum_by f xs → (i : ℕ) × (y : A) × IsAt xs i y × (0 < f y)) → (n : ℕ) → f x ≡ n
          → (i : ℕ) × (y : A) × IsAt (x ∷ xs) i y × (0 < f y)
      by after (suc n) e = (0, x, refl, omega (arith, e))
      by after zero e = let (i, y, there, counts) = after (omega (arith, some, e, sum_by-cons f x xs)) in (suc i, y, there, counts)

  part_of_sum : (xs : List A) (i : ℕ) (x : A) → IsAt xs i x → f x ≤ sum_by f xs
  part_of_sum xs i x there =
      let sum = one_more_summed f xs i x there in
      let le = sum_by-take-le f xs (i + 1) in
      omega (arith, sum, le)

  parts_of_sum : (xs : List A) (i j : ℕ) (x y : A) → i < j → IsAt xs i x → IsAt xs j y → f x + f y ≤ sum_by f xs
  parts_of_sum xs i j x y lt there also =
      let front = part_of_sum (take j xs) i x (take_at j xs i x lt there) in
      let sum = one_more_summed f xs j y also in
      let le = sum_by-take-le f xs (j + 1) in
      omega (arith, front, sum, le)

  -- Where it sums up to 1, one thing alone counts.
  one_counts : (xs : List A) (i j : ℕ) (x y : A) → sum_by f xs ≤ 1 → IsAt xs i x → IsAt xs j y → 0 < f x → 0 < f y → x ≡ y
  one_counts xs i j x y one there also some more = elim (cases_lt i j) [
    | inl less ↦ let two = parts_of_sum xs i j x y less there also in absurd (omega (arith, one, two, some, more))
    | inr le ↦ elim (cases_lt j i) [
      | inl less ↦ let two = parts_of_sum xs j i y x less also there in absurd (omega (arith, one, two, some, more))
      | inr ge ↦
          let same : i ≡ j = omega (arith, le, ge) in
          one_there xs j x y (subst (λ (k : ℕ). IsAt xs k x) same there) also
    ]
  ]

module _ (number : ℕ) where
  one : RecordedJob → ℕ
  one d = cond (is_job number d) 1 0

  times : List RecordedJob → ℕ
  times work = count_by (is_job number) work

  one_of : (d : RecordedJob) → d.job ≡ number → 0 < one d
  unfolding one
  one_of d is =
      let same : ◌≡◌ {A = ℕ} (cond (nat_eq d.job number) 1 0) 1 = ap (λ (b : Bool). cond b 1 0) (eq-eqb d.job number is) in
      omega (arith, same)

  of_one : (d : RecordedJob) → 0 < one d → d.job ≡ number
  unfolding one
  of_one d counts = by (nat_eq d.job number) refl
    where
      by : (b : Bool) → nat_eq d.job number ≡ b → d.job ≡ number
      by true e = eqb-true d.job number e
      by false e =
          let none : ◌≡◌ {A = ℕ} (cond (nat_eq d.job number) 1 0) 0 = ap (λ (b : Bool). cond b 1 0) e in
          absurd (omega (arith, none, counts))

  -- A job that was done was done by some worker.
  some_done : (done : List (List RecordedJob)) → 0 < times_done number done → (its : RecordedJob) × IsDoneJob done number its
  unfolding one times
  some_done done some =
      let (worker, work, by, more) = some_counts times done some in
      let (place, d, there, counts) = some_counts one work more in
      (d, record { number_is = of_one d counts; worker = worker; work = work; place = place; by = by; there = there })

  one_done : (done : List (List RecordedJob)) → times_done number done ≤ 1 → (d e : RecordedJob) → IsDoneJob done number d
      → IsDoneJob done number e → d ≡ e
  unfolding one times
  one_done done once d e a b =
      let here = one_of d a.number_is in
      let there = one_of e b.number_is in
      let in_a = part_of_sum one a.work a.place d a.there in
      let in_b = part_of_sum one b.work b.place e b.there in
      let same : a.work ≡ b.work =
      one_counts times done a.worker b.worker a.work b.work once a.by b.by (omega (arith, here, in_a)) (omega (arith, there, in_b)) in
      let few = part_of_sum times done a.worker a.work a.by in
      one_counts one a.work a.place b.place d e (omega (arith, few, once)) a.there
      (subst (λ (w : List RecordedJob). IsAt w b.place e) (sym same) b.there) here there

module _ (r : RecordView) (lawful : IsLawfulRecord r) where
  -- each done job is of one of the jobs
  pub of_jobs : (worker place : ℕ) (work : List RecordedJob) (d : RecordedJob) → IsAt r.done worker work → IsAt work place d
      → d.job < length r.jobs
  of_jobs worker place work d by there =
      let shape = lawful.shapes worker work place d by there in below r.jobs d.job shape.job shape.its

  pub each_done : (number : ℕ) → number < length r.jobs → (its : RecordedJob) × IsDoneJob r.done number its
  each_done number lt = let once = lawful.once number lt in some_done number r.done (omega (arith, once))

  pub done_once : (number : ℕ) (d e : RecordedJob) → IsDoneJob r.done number d → IsDoneJob r.done number e → d ≡ e
  done_once number d e a b =
      let low : number < length r.jobs =
      subst (λ (n : ℕ). n < length r.jobs) a.number_is (of_jobs a.worker a.place a.work d a.by a.there) in
      let once = lawful.once number low in
      one_done number r.done (omega (arith, once)) d e a b

  -- Where all done jobs are noted, that of each job is.
  pub each_noted : (places : List DonePlace) → AreNoted (length r.done) r.done places → AreDonePlaces r places
  each_noted places noted = λ number lt.
      let (d, its) = each_done number lt in
      subst (λ (n : ℕ). IsNoted r.done places n) its.number_is
      (noted its.worker its.work its.place d (below r.done its.worker its.work its.by) its.by its.there)

-- A done job of a record that a file can hold has a status for each command of its job.
pub has_statuses : (r : RecordView) → IsRecordable r → (number : ℕ) (d : RecordedJob) → IsDoneJob r.done number d → (job : Job)
    → IsAt r.jobs number job → IsForEach job.body d.statuses
has_statuses r held number d its job of =
    let work : IsRecordableWork r its.work = all_at (IsRecordableWork r) r.done held.done its.worker its.work its.by in
    let done : IsRecordableDone r d = all_at (IsRecordableDone r) its.work work.each its.place d its.there in
    subst (λ (j : Job). IsForEach j.body d.statuses)
    (one_there r.jobs number done.job job (subst (λ (n : ℕ). IsAt r.jobs n done.job) its.number_is done.its) of) done.statuses
