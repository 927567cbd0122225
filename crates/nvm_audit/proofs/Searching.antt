-- The first of many checks that fails, where they are in the order of numbers.
use Rattle.std.proofs.Common.{ℕ, zero, suc, ◌+◌, ◌<◌, ◌≤◌, List, [], ◌∷◌, ◌++◌, map, Option, Some, None, refl, subst, sym, inl, inr, arith}
use Rattle.std.proofs.lemmas.Bool.{cases_eq}
use Rattle.std.specs.List.{AllByRecursion, flat_map, range_with_len}
use Rattle.nvm_audit.specs.declared.audit_fault.AuditFault.{AuditFault}
use Rattle.nvm_audit.specs.FirstFailed.{IsFirstFailed}
use Rattle.nvm_audit.specs.Inside.Search.{IsFound}
use Rattle.nvm_audit.specs.RecordChecks.{RecordCheck, Passes}
use Rattle.nvm_audit.specs.RecordView.{RecordView}

module _ {C : Type 0} (P : C → Type 0) where
  all_of_both : (xs ys : List C) → AllByRecursion P xs → AllByRecursion P ys → AllByRecursion P (xs ++ ys)
  all_of_both [] ys here after = after
  all_of_both (x ∷ xs) ys here after = (here.0, all_of_both xs ys here.1 after)

  pub first_in_front : (xs ys : List C) (check : C) → IsFirstFailed P xs check → IsFirstFailed P (xs ++ ys) check
  first_in_front [] ys check first = absurd first
  first_in_front (x ∷ xs) ys check (inl here) = inl here
  first_in_front (x ∷ xs) ys check (inr after) = inr (after.0, first_in_front xs ys check after.1)

  pub first_behind : (xs ys : List C) (check : C) → AllByRecursion P xs → IsFirstFailed P ys check → IsFirstFailed P (xs ++ ys) check
  first_behind [] ys check all first = first
  first_behind (x ∷ xs) ys check all first = inr (all.0, first_behind xs ys check all.1 first)

-- Each number has checks of its own.
module _ {C : Type 0} (P : C → Type 0) (f : ℕ → List C) where
  pub all_lists : (a n : ℕ) → ((k : ℕ) → k < a + n → AllByRecursion P (f k)) → AllByRecursion P (flat_map f (range_with_len a n))
  all_lists a zero each = tt
  all_lists a (suc n) each =
      all_of_both P (f a) (flat_map f (range_with_len (a + 1) n)) (each a (omega arith))
      (all_lists (a + 1) n (λ k lt. each k (omega (arith, lt))))

  all_in_front : (xs ys : List C) → AllByRecursion P (xs ++ ys) → AllByRecursion P xs
  all_in_front [] ys all = tt
  all_in_front (x ∷ xs) ys all = (all.0, all_in_front xs ys all.1)

  all_behind : (xs ys : List C) → AllByRecursion P (xs ++ ys) → AllByRecursion P ys
  all_behind [] ys all = all
  all_behind (x ∷ xs) ys all = all_behind xs ys all.1

  pub of_lists : (a n : ℕ) → AllByRecursion P (flat_map f (range_with_len a n)) → (i : ℕ) → a ≤ i → i < a + n → AllByRecursion P (f i)
  of_lists a zero all i le lt = absurd (omega (arith, le, lt))
  of_lists a (suc n) all i le lt = elim (cases_eq a i) [
    | inl e ↦ subst (λ (k : ℕ). AllByRecursion P (f k)) e (all_in_front (f a) (flat_map f (range_with_len (a + 1) n)) all)
    | inr other ↦
        of_lists (a + 1) n (all_behind (f a) (flat_map f (range_with_len (a + 1) n)) all) i (omega (arith, le, other)) (omega (arith, lt))
  ]

  pub first_list : (a n i : ℕ) (check : C) → a ≤ i → i < a + n → ((k : ℕ) → k < i → AllByRecursion P (f k))
      → IsFirstFailed P (f i) check → IsFirstFailed P (flat_map f (range_with_len a n)) check
  first_list a zero i check le lt before first = absurd (omega (arith, le, lt))
  first_list a (suc n) i check le lt before first = elim (cases_eq a i) [
    | inl e ↦
        first_in_front P (f a) (flat_map f (range_with_len (a + 1) n)) check
        (subst (λ (k : ℕ). IsFirstFailed P (f k) check) (sym e) first)
    | inr other ↦
        first_behind P (f a) (flat_map f (range_with_len (a + 1) n)) check (before a (omega (arith, le, other)))
        (first_list (a + 1) n i check (omega (arith, le, other)) (omega (arith, lt)) before first)
  ]

-- Each number has one check.
module _ {C : Type 0} (P : C → Type 0) (f : ℕ → C) where
  pub all_numbers : (a n : ℕ) → ((k : ℕ) → k < a + n → P (f k)) → AllByRecursion P (map f (range_with_len a n))
  all_numbers a zero each = tt
  all_numbers a (suc n) each = (each a (omega arith), all_numbers (a + 1) n (λ k lt. each k (omega (arith, lt))))

  pub first_number : (a n i : ℕ) → a ≤ i → i < a + n → ((k : ℕ) → k < i → P (f k)) → ¬ (P (f i))
      → IsFirstFailed P (map f (range_with_len a n)) (f i)
  first_number a zero i le lt before fails = absurd (omega (arith, le, lt))
  first_number a (suc n) i le lt before fails = elim (cases_eq a i) [
    | inl e ↦ subst (λ (k : ℕ). IsFirstFailed P (f a ∷ map f (range_with_len (a + 1) n)) (f k)) e
        (inl (refl, subst (λ (k : ℕ). ¬ (P (f k))) (sym e) fails))
    | inr other ↦
        inr (
          before a (omega (arith, le, other)),
          first_number (a + 1) n i (omega (arith, le, other)) (omega (arith, lt)) before fails,
        )
  ]

-- What is found after checks that pass is found in all of them.
pub found_behind : (r : RecordView) (xs ys : List RecordCheck) (result : Option AuditFault) → AllByRecursion (Passes r) xs
    → IsFound r ys result → IsFound r (xs ++ ys) result
found_behind r xs ys None all found = all_of_both (Passes r) xs ys all found
found_behind r xs ys (Some fault) all found = record {
  check = found.check;
  first = first_behind (Passes r) xs ys found.check all found.first;
  is = found.is;
}
