-- What is decided, and what is decided with it.
use Rattle.std.proofs.Common.{◌≡◌, ◌⊎◌, ◌↔◌, ℕ, zero, suc, ◌<◌, ◌≤◌, List, [], ◌∷◌, Bool, true, false, IsTrue, Decides, refl, sym, subst, inl, inr, arith}
use Rattle.std.proofs.lemmas.Bool.{cases_lt}
use Rattle.std.proofs.lemmas.Bool.Decides.{not_from_Decides}
use Rattle.std.specs.List.{AllByRecursion}
use Rattle.nvm_record.specs.Lists.{IsAt}
use mathlib.Core.Bool.{true≢false}
use mathlib.Core.Option.{some-injective}
use Rattle.nvm_audit.proofs.EachPasses.{all_here, of_each}
use Rattle.nvm_audit.proofs.Standing.{none_stands}

-- It is so, or it isn't.
abbrev pub IsDecided : Type 0 → Type 0
IsDecided P = P ⊎ (P → ⊥)

module _ {P : Type 0} where
  pub by_test : (b : Bool) → Decides b P → IsDecided P
  by_test true d = inl (d.0 refl)
  by_test false d = inr (not_from_Decides false d refl)

module _ {P Q : Type 0} where
  pub with_it : (P → Q) → (Q → P) → IsDecided P → IsDecided Q
  with_it to from (inl p) = inl (to p)
  with_it to from (inr n) = inr (λ q. n (from q))

  pub both : IsDecided P → IsDecided Q → IsDecided (P × Q)
  both (inl p) (inl q) = inl (p, q)
  both (inl p) (inr n) = inr (λ h. n h.1)
  both (inr n) q = inr (λ h. n h.0)

  pub either : IsDecided P → IsDecided Q → IsDecided (P ⊎ Q)
  either (inl p) q = inl (inl p)
  either (inr n) (inl q) = inl (inr q)
  either (inr n) (inr m) = inr (λ h. elim h [ inl p ↦ n p | inr q ↦ m q ])

  pub where_so : IsDecided P → IsDecided Q → IsDecided (P → Q)
  where_so p (inl q) = inl (λ _. q)
  where_so (inl p) (inr n) = inr (λ f. n (f p))
  where_so (inr m) (inr n) = inl (λ p. absurd (m p))

module _ {P Q : Type 0} where
  pub each_way : IsDecided P → IsDecided Q → IsDecided (P ↔ Q)
  each_way p q = both (where_so p q) (where_so q p)

pub is_true : (b : Bool) → IsDecided (IsTrue b)
is_true true = inl refl
is_true false = inr (λ e. absurd (cc e))

pub is_false : (b : Bool) → IsDecided (b ≡ false)
is_false true = inr (λ e. true≢false e)
is_false false = inl refl

pub below : (a b : ℕ) → IsDecided (a < b)
below a b = elim (cases_lt a b) [
  | inl lt ↦ inl lt
  | inr above ↦ inr (λ lt. absurd (omega (arith, lt, above)))
]

pub at_most : (a b : ℕ) → IsDecided (a ≤ b)
at_most a b = elim (cases_lt b a) [
  | inl above ↦ inr (λ le. absurd (omega (arith, above, le)))
  | inr le ↦ inl le
]

module _ {A : Type 0} where
  -- what is at a place, if anything is
  pub at_place : (xs : List A) (i : ℕ) → ((x : A) × IsAt xs i x) ⊎ ((x : A) → IsAt xs i x → ⊥)
  at_place [] i = inr (λ x at. none_stands i x at)
  at_place (x ∷ xs) zero = inl (x, refl)
  at_place (x ∷ xs) (suc i) = at_place xs i

  pub is_empty : (xs : List A) → IsDecided (xs ≡ [])
  is_empty [] = inl refl
  is_empty (x ∷ xs) = inr (λ e. none_stands 0 x (subst (λ (l : List A). IsAt l 0 x) e refl))

module _ {A : Type 0} (P : A → Type 0) (each : (x : A) → IsDecided (P x)) where
  pub all_of : (xs : List A) → IsDecided (AllByRecursion P xs)
  all_of [] = inl tt
  all_of (x ∷ xs) = both (each x) (all_of xs)

  pub each_at : (xs : List A) → IsDecided ((i : ℕ) (x : A) → IsAt xs i x → P x)
  each_at xs = with_it (all_here P xs) (of_each P xs) (all_of xs)

  pub some_at : (xs : List A) → IsDecided ((i : ℕ) × (x : A) × IsAt xs i x × P x)
  some_at [] = inr (λ found. none_stands found.0 found.1 found.2)
  some_at (x ∷ xs) = elim (each x) [
    | inl here ↦ inl (0, x, refl, here)
    | inr not_here ↦ elim (some_at xs) [
      | inl after ↦ inl (suc after.0, after.1, after.2, after.3)
      | inr none ↦ inr (λ found. neither not_here none found.0 found.1 found.2 found.3)
    ]
  ]
    where
      neither : (P x → ⊥) → ((i : ℕ) × (y : A) × IsAt xs i y × P y → ⊥) → (i : ℕ) (y : A) → IsAt (x ∷ xs) i y → P y → ⊥
      neither not_here none zero y at h = not_here (subst P (sym (some-injective x y at)) h)
      neither not_here none (suc i) y at h = none (i, y, at, h)
