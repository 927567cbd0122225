-- Which fault is the first, by how far what is looked for passes.
use Rattle.std.proofs.Common.{◌≡◌, ℕ, zero, suc, ◌+◌, ◌<◌, ◌≤◌, List, [], ◌∷◌, ◌++◌, length, map, None, refl, sym, ap, subst, inl, inr, arith}
use Rattle.std.proofs.lemmas.Bool.{cases_eq}
use Rattle.std.specs.List.{AllByRecursion, flat_map, range_with_len}
use mathlib.Core.Option.{some-injective}
use Rattle.nvm_record.specs.Lists.{IsAt}
use Rattle.nvm_store.specs.HistoryEntry.{HistoryEntry}
use Rattle.nvm_audit.specs.declared.audit_fault.AuditFault.{AuditFault}
use Rattle.nvm_audit.specs.declared.audit_fault.AuditFault.TheVariants.{JobMissing, JobTwice, StatusWrong}
use Rattle.nvm_audit.specs.FirstFailed.{IsFirstFailed}
use Rattle.nvm_audit.specs.LawfulRecord.{times_done, HaveShapes}
use Rattle.nvm_audit.specs.RecordChecks.{RecordCheck, job_done, job_once, shape_right, in_unit, Passes, HaveShapesOf, count_checks, shape_checks, checks_of_units, record_checks, HasNoFault, IsFirstFault}
use Rattle.nvm_audit.specs.RecordView.{RecordView}
use Rattle.nvm_audit.specs.UnitChecks.{UnitCheck, PassesInUnit, unit_checks, HasNoUnitFault, IsFirstUnitFault}
use Rattle.nvm_audit.specs.UnitView.{view_of_unit}
use Rattle.nvm_audit.proofs.EachPasses as each
use Rattle.nvm_audit.proofs.RecordChecksPass.{all_counted, all_shaped, units_pass}
use Rattle.nvm_audit.proofs.Standing.{none_stands}

module _ {C : Type 0} (P : C → Type 0) where
  pub first_in_front : (xs ys : List C) (check : C) → IsFirstFailed P xs check → IsFirstFailed P (xs ++ ys) check
  first_in_front [] ys check is = absurd is
  first_in_front (x ∷ xs) ys check (inl here) = inl here
  first_in_front (x ∷ xs) ys check (inr after) = inr (after.0, first_in_front xs ys check after.1)

  pub first_behind : (xs ys : List C) (check : C) → AllByRecursion P xs → IsFirstFailed P ys check → IsFirstFailed P (xs ++ ys) check
  first_behind [] ys check all is = is
  first_behind (x ∷ xs) ys check all is = inr (all.0, first_behind xs ys check all.1 is)

module _ {A C : Type 0} (P : C → Type 0) (f : A → C) where
  pub first_mapped : (xs : List A) (x : A) → IsFirstFailed (λ y. P (f y)) xs x → IsFirstFailed P (map f xs) (f x)
  first_mapped [] x is = is
  first_mapped (y ∷ ys) x (inl here) = inl (ap f here.0, here.1)
  first_mapped (y ∷ ys) x (inr after) = inr (after.0, first_mapped ys x after.1)

module _ {C : Type 0} (P : C → Type 0) (f : ℕ → List C) where
  -- in the lists of the numbers from `a` on
  first_of_lists : (a n k : ℕ) (check : C) → a ≤ k → k < a + n → ((j : ℕ) → j < k → AllByRecursion P (f j))
      → IsFirstFailed P (f k) check → IsFirstFailed P (flat_map f (range_with_len a n)) check
  first_of_lists a zero k check le lt before is = absurd (omega (arith, le, lt))
  first_of_lists a (suc n) k check le lt before is = elim (cases_eq a k) [
    | inl e ↦
        first_in_front P (f a) (flat_map f (range_with_len (a + 1) n)) check
        (subst (λ (m : ℕ). IsFirstFailed P (f m) check) (sym e) is)
    | inr other ↦
        first_behind P (f a) (flat_map f (range_with_len (a + 1) n)) check (before a (omega (arith, le, other)))
        (first_of_lists (a + 1) n k check (omega (arith, le, other)) (omega (arith, lt)) before is)
  ]

module _ (P : ℕ → Type 0) where
  first_of_numbers : (a n k : ℕ) → a ≤ k → k < a + n → ((j : ℕ) → j < k → P j) → ¬ (P k) → IsFirstFailed P (range_with_len a n) k
  first_of_numbers a zero k le lt before fails = absurd (omega (arith, le, lt))
  first_of_numbers a (suc n) k le lt before fails = elim (cases_eq a k) [
    | inl e ↦ inl (sym e, subst (λ (m : ℕ). ¬ (P m)) (sym e) fails)
    | inr other ↦
        inr (before a (omega (arith, le, other)), first_of_numbers (a + 1) n k (omega (arith, le, other)) (omega (arith, lt)) before fails)
  ]

module _ (r : RecordView) where
  -- the checks that each of the jobs was done once, and has its shape
  abbrev checks_of_jobs : List RecordCheck
  checks_of_jobs = count_checks (length r.jobs) ++ shape_checks (length r.jobs)

  -- whether the job of this number was done, and no more than once
  abbrev counts : ℕ → List RecordCheck
  counts number = job_done number ∷ job_once number ∷ []

  -- the jobs of lower numbers were done once
  abbrev OnceBelow : ℕ → Type 0
  OnceBelow number = (j : ℕ) → j < number → times_done j r.done ≡ 1

  once : (number : ℕ) → times_done number r.done ≡ 1 → AllByRecursion (Passes r) (counts number)
  once number one = (omega (arith, one), (omega (arith, one), tt))

  fault_of_counts : (number : ℕ) (check : RecordCheck) → number < length r.jobs → OnceBelow number
      → IsFirstFailed (Passes r) (counts number) check → IsFirstFailed (Passes r) (record_checks r) check
  fault_of_counts number check lt before is =
      first_in_front (Passes r) checks_of_jobs (checks_of_units r 0 r.units) check
      (first_in_front (Passes r) (count_checks (length r.jobs)) (shape_checks (length r.jobs)) check
      (first_of_lists (Passes r) (λ n. job_done n ∷ job_once n ∷ []) 0 (length r.jobs) number check (omega arith) (omega (arith, lt))
      (λ j below. once j (before j below)) is))

  pub missing : (number : ℕ) → number < length r.jobs → OnceBelow number → times_done number r.done ≡ 0
      → IsFirstFault r (JobMissing number)
  missing number lt before none =
      record {
        check = job_done number;
        first = fault_of_counts number (job_done number) lt before (inl (refl, λ some. absurd (omega (arith, none, some))));
        is = refl;
      }

  pub twice : (number : ℕ) → number < length r.jobs → OnceBelow number → 1 < times_done number r.done
      → IsFirstFault r (JobTwice number)
  twice number lt before more =
      record {
        check = job_once number;
        first =
            fault_of_counts number (job_once number) lt before
            (inr (omega (arith, more), inl (refl, λ most. absurd (omega (arith, more, most)))));
        is = refl;
      }

  pub wrong_shape : OnceBelow (length r.jobs) → (number : ℕ) → number < length r.jobs → ((j : ℕ) → j < number → HaveShapesOf r j)
      → ¬ (HaveShapesOf r number) → IsFirstFault r (StatusWrong number None)
  wrong_shape counted number lt before fails =
      record {
        check = shape_right number;
        first =
            first_in_front (Passes r) checks_of_jobs (checks_of_units r 0 r.units) (shape_right number)
            (first_behind (Passes r) (count_checks (length r.jobs)) (shape_checks (length r.jobs)) (shape_right number) (all_counted r counted)
            (first_mapped (Passes r) shape_right (range_with_len 0 (length r.jobs)) number
            (first_of_numbers (HaveShapesOf r) 0 (length r.jobs) number (omega arith) (omega (arith, lt)) before fails)));
        is = refl;
      }

  -- Nothing is wrong in the units below.
  abbrev CleanBelow : ℕ → List (List HistoryEntry) → ℕ → Type 0
  CleanBelow unit units place =
      (i : ℕ) (history : List HistoryEntry) → i < place → IsAt units i history → HasNoUnitFault (view_of_unit r (unit + i) history)

  -- It is the first check of the unit that fails.
  abbrev FailsFirst : ℕ → List HistoryEntry → UnitCheck → Type 0
  FailsFirst unit history check =
      IsFirstFailed (PassesInUnit (view_of_unit r unit history)) (unit_checks (view_of_unit r unit history)) check

  -- what is looked for in the unit of this number, which has this history
  abbrev checks_in : ℕ → List HistoryEntry → List RecordCheck
  checks_in unit history = map (in_unit (view_of_unit r unit history)) (unit_checks (view_of_unit r unit history))

  unit_first : (unit : ℕ) (units : List (List HistoryEntry)) (place : ℕ) (history : List HistoryEntry) (check : UnitCheck)
      → IsAt units place history → CleanBelow unit units place
      → FailsFirst (unit + place) history check
      → IsFirstFailed (Passes r) (checks_of_units r unit units) (in_unit (view_of_unit r (unit + place) history) check)
  unit_first unit [] place history check at clean is = absurd (none_stands place history at)
  unit_first unit (first ∷ rest) zero history check at clean is =
      let here : unit + 0 ≡ unit = omega arith in
      let same : first ≡ history = some-injective first history at in
      first_in_front (Passes r) (checks_in unit first)
      (checks_of_units r (unit + 1) rest) (in_unit (view_of_unit r (unit + 0) history) check)
      (subst
      (λ (n : ℕ). IsFirstFailed (Passes r) (checks_in unit first)
      (in_unit (view_of_unit r n history) check)) (sym here)
      (subst
      (λ (h : List HistoryEntry). IsFirstFailed (Passes r) (checks_in unit first)
      (in_unit (view_of_unit r unit h) check)) same
      (first_mapped (Passes r) (in_unit (view_of_unit r unit first)) (unit_checks (view_of_unit r unit first)) check
      (subst (λ (h : List HistoryEntry). FailsFirst unit h check) (sym same)
      (subst (λ (n : ℕ). FailsFirst n history check) here is)))))
  unit_first unit (first ∷ rest) (suc place) history check at clean is =
      let here : unit + 0 ≡ unit = omega arith in
      let number : unit + 1 + place ≡ unit + suc place = omega arith in
      first_behind (Passes r) (checks_in unit first)
      (checks_of_units r (unit + 1) rest) (in_unit (view_of_unit r (unit + suc place) history) check)
      (each.mapped (Passes r) (in_unit (view_of_unit r unit first)) (unit_checks (view_of_unit r unit first))
      (subst (λ (n : ℕ). HasNoUnitFault (view_of_unit r n first)) here (clean 0 first (omega arith) refl)))
      (subst (λ (n : ℕ). IsFirstFailed (Passes r) (checks_of_units r (unit + 1) rest) (in_unit (view_of_unit r n history) check)) number
      (unit_first (unit + 1) rest place history check at
      (λ i next below there.
      let behind : unit + suc i ≡ unit + 1 + i = omega arith in
      subst (λ (n : ℕ). HasNoUnitFault (view_of_unit r n next)) behind (clean (suc i) next (omega (arith, below)) there))
      (subst (λ (n : ℕ). FailsFirst n history check) (sym number) is)))

  pub wrong_in_unit : OnceBelow (length r.jobs) → HaveShapes r → (unit : ℕ) (history : List HistoryEntry) → IsAt r.units unit history
      → ((i : ℕ) (h : List HistoryEntry) → i < unit → IsAt r.units i h → HasNoUnitFault (view_of_unit r i h))
      → (fault : AuditFault) → IsFirstUnitFault (view_of_unit r unit history) fault → IsFirstFault r fault
  wrong_in_unit counted shapes unit history there clean fault found =
      let number : 0 + unit ≡ unit = omega arith in
      record {
        check = in_unit (view_of_unit r unit history) found.check;
        first =
            first_behind (Passes r) checks_of_jobs (checks_of_units r 0 r.units) (in_unit (view_of_unit r unit history) found.check)
            (each.joined (Passes r) (count_checks (length r.jobs)) (shape_checks (length r.jobs)) (all_counted r counted) (all_shaped r shapes))
            (subst (λ (n : ℕ). IsFirstFailed (Passes r) (checks_of_units r 0 r.units) (in_unit (view_of_unit r n history) found.check)) number
            (unit_first 0 r.units unit history found.check there
            (λ i h below at.
            let same : i ≡ 0 + i = omega arith in
            subst (λ (n : ℕ). HasNoUnitFault (view_of_unit r n h)) same (clean i h below at))
            (subst (λ (n : ℕ). FailsFirst n history found.check)
            (sym number) found.first)));
        is = found.is;
      }

  pub none_wrong : OnceBelow (length r.jobs) → HaveShapes r
      → ((unit : ℕ) (history : List HistoryEntry) → IsAt r.units unit history → HasNoUnitFault (view_of_unit r unit history))
      → HasNoFault r
  none_wrong counted shapes clean =
      each.joined (Passes r) checks_of_jobs (checks_of_units r 0 r.units)
      (each.joined (Passes r) (count_checks (length r.jobs)) (shape_checks (length r.jobs)) (all_counted r counted) (all_shaped r shapes))
      (units_pass r 0 r.units
      (λ unit history there.
      let same : unit ≡ 0 + unit = omega arith in
      subst (λ (n : ℕ). HasNoUnitFault (view_of_unit r n history)) same (clean unit history there)))
