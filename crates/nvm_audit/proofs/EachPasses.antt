-- What is so of each element of lists that are joined, mapped and numbered.
use Rattle.std.proofs.Common.{ℕ, zero, suc, ◌+◌, ◌<◌, ◌≤◌, List, [], ◌∷◌, ◌++◌, map, refl, subst, inl, inr, arith}
use Rattle.std.proofs.lemmas.Bool.{cases_eq}
use Rattle.std.specs.List.{AllByRecursion, flat_map, range_with_len}
use mathlib.Core.Option.{some-injective}
use Rattle.nvm_record.specs.Lists.{IsAt}
use Rattle.nvm_audit.proofs.Standing.{none_stands}

module _ {A : Type 0} (P : A → Type 0) where
  pub of_each : (xs : List A) → ((i : ℕ) (x : A) → IsAt xs i x → P x) → AllByRecursion P xs
  of_each [] each = tt
  of_each (x ∷ xs) each = (each zero x refl, of_each xs (λ i y at. each (suc i) y at))

  pub all_here : (xs : List A) → AllByRecursion P xs → (i : ℕ) (x : A) → IsAt xs i x → P x
  all_here [] all i x at = absurd (none_stands i x at)
  all_here (y ∷ ys) all zero x at = subst P (some-injective y x at) all.0
  all_here (y ∷ ys) all (suc i) x at = all_here ys all.1 i x at

  pub joined : (xs ys : List A) → AllByRecursion P xs → AllByRecursion P ys → AllByRecursion P (xs ++ ys)
  joined [] ys here after = after
  joined (x ∷ xs) ys here after = (here.0, joined xs ys here.1 after)

  pub in_front : (xs ys : List A) → AllByRecursion P (xs ++ ys) → AllByRecursion P xs
  in_front [] ys all = tt
  in_front (x ∷ xs) ys all = (all.0, in_front xs ys all.1)

  pub behind : (xs ys : List A) → AllByRecursion P (xs ++ ys) → AllByRecursion P ys
  behind [] ys all = all
  behind (x ∷ xs) ys all = behind xs ys all.1

module _ {A B : Type 0} (P : B → Type 0) (f : A → B) where
  pub mapped : (xs : List A) → AllByRecursion (λ x. P (f x)) xs → AllByRecursion P (map f xs)
  mapped [] all = tt
  mapped (x ∷ xs) all = (all.0, mapped xs all.1)

  pub unmapped : (xs : List A) → AllByRecursion P (map f xs) → AllByRecursion (λ x. P (f x)) xs
  unmapped [] all = tt
  unmapped (x ∷ xs) all = (all.0, unmapped xs all.1)

module _ {B : Type 0} (P : B → Type 0) (f : ℕ → List B) where
  -- the lists of the numbers from `a` on
  pub each_list : (a n : ℕ) → ((k : ℕ) → k < a + n → AllByRecursion P (f k)) → AllByRecursion P (flat_map f (range_with_len a n))
  each_list a zero each = tt
  each_list a (suc n) each =
      joined P (f a) (flat_map f (range_with_len (a + 1) n)) (each a (omega arith))
      (each_list (a + 1) n (λ k lt. each k (omega (arith, lt))))

  pub list_of : (a n : ℕ) → AllByRecursion P (flat_map f (range_with_len a n)) → (k : ℕ) → a ≤ k → k < a + n → AllByRecursion P (f k)
  list_of a zero all k le lt = absurd (omega arith)
  list_of a (suc n) all k le lt = elim (cases_eq a k) [
    | inl e ↦ subst (λ (m : ℕ). AllByRecursion P (f m)) e (in_front P (f a) (flat_map f (range_with_len (a + 1) n)) all)
    | inr other ↦ list_of (a + 1) n (behind P (f a) (flat_map f (range_with_len (a + 1) n)) all) k (omega (arith, other)) (omega arith)
  ]

module _ (P : ℕ → Type 0) where
  pub of_range : (a n : ℕ) → ((k : ℕ) → P k) → AllByRecursion P (range_with_len a n)
  of_range a zero each = tt
  of_range a (suc n) each = (each a, of_range (a + 1) n each)

  pub at_number : (a n : ℕ) → AllByRecursion P (range_with_len a n) → (k : ℕ) → a ≤ k → k < a + n → P k
  at_number a zero all k le lt = absurd (omega arith)
  at_number a (suc n) all k le lt = elim (cases_eq a k) [
    | inl e ↦ subst P e all.0
    | inr other ↦ at_number (a + 1) n all.1 k (omega (arith, other)) (omega arith)
  ]
