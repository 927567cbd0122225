-- What is at a place of a list of which a beginning was taken, or in which one element was put or added.
use Rattle.std.proofs.Common.{◌≡◌, ◌≢◌, ◌⊎◌, ℕ, zero, suc, ◌+◌, ◌<◌, List, [], ◌∷◌, ◌++◌, length, take, set, replicate, get_or, refl, sym, subst, ap, ◌∙◌, arith, inl, inr}
use Rattle.std.proofs.lemmas.List.{take_more}
use mathlib.Core.Option.{some-injective}
use Rattle.nvm_record.specs.Lists.{IsAt}
use Rattle.nvm_audit.proofs.Standing.{none_stands, read_there}

module _ {A : Type 0} where
  pub at_left : (xs ys : List A) (i : ℕ) (x : A) → IsAt xs i x → IsAt (xs ++ ys) i x
  at_left [] ys i x e = absurd (none_stands i x e)
  at_left (y ∷ xs) ys zero x e = e
  at_left (y ∷ xs) ys (suc i) x e = at_left xs ys i x e

  pub at_end : (xs : List A) (x : A) → IsAt (xs ++ x ∷ []) (length xs) x
  at_end [] x = refl
  at_end (y ∷ xs) x = at_end xs x

  pub at_push : (xs : List A) (y : A) (i : ℕ) (x : A) → IsAt (xs ++ y ∷ []) i x → IsAt xs i x ⊎ ((i ≡ length xs) × (x ≡ y))
  at_push [] y zero x e = inr (refl, sym (some-injective y x e))
  at_push [] y (suc i) x e = absurd (none_stands i x e)
  at_push (z ∷ xs) y zero x e = inl e
  at_push (z ∷ xs) y (suc i) x e = elim (at_push xs y i x e) [
    | inl here ↦ inl here
    | inr last ↦ inr (ap suc last.0, last.1)
  ]

  pub at_set : (xs : List A) (i : ℕ) (v : A) (j : ℕ) (x : A) → IsAt (set xs i v) j x → ((j ≡ i) × (x ≡ v)) ⊎ ((j ≢ i) × IsAt xs j x)
  at_set [] i v j x e = absurd (none_stands j x e)
  at_set (y ∷ ys) zero v zero x e = inl (refl, sym (some-injective v x e))
  at_set (y ∷ ys) zero v (suc j) x e = inr (omega arith, e)
  at_set (y ∷ ys) (suc i) v zero x e = inr (omega arith, e)
  at_set (y ∷ ys) (suc i) v (suc j) x e = elim (at_set ys i v j x e) [
    | inl here ↦ inl (ap suc here.0, here.1)
    | inr there ↦ inr (let apart = there.0 in (λ same. apart (omega arith)), there.1)
  ]

  pub at_take : (n : ℕ) (xs : List A) (k : ℕ) (x : A) → IsAt (take n xs) k x → (k < n) × IsAt xs k x
  at_take zero xs k x e = absurd (none_stands k x e)
  at_take (suc n) [] k x e = absurd (none_stands k x e)
  at_take (suc n) (y ∷ ys) zero x e = (omega arith, e)
  at_take (suc n) (y ∷ ys) (suc k) x e = let rest = at_take n ys k x e in (let low = rest.0 in omega arith, rest.1)

  pub take_at : (n : ℕ) (xs : List A) (k : ℕ) (x : A) → k < n → IsAt xs k x → IsAt (take n xs) k x
  take_at zero xs k x low e = absurd (omega arith)
  take_at (suc n) [] k x low e = absurd (none_stands k x e)
  take_at (suc n) (y ∷ ys) zero x low e = e
  take_at (suc n) (y ∷ ys) (suc k) x low e = take_at n ys k x (omega arith) e

  pub at_replicate : (n : ℕ) (v : A) (k : ℕ) (x : A) → IsAt (replicate n v) k x → x ≡ v
  at_replicate zero v k x e = absurd (none_stands k x e)
  at_replicate (suc n) v zero x e = sym (some-injective v x e)
  at_replicate (suc n) v (suc k) x e = at_replicate n v k x e

  -- one element more was taken
  pub taken : (xs : List A) (k : ℕ) (x : A) → k < length xs → x ≡ get_or xs k x → take (k + 1) xs ≡ take k xs ++ x ∷ []
  taken xs k x low is = take_more xs k x low ∙ ap (λ (y : A). take k xs ++ y ∷ []) (sym is)

  -- what was read is there
  pub stands_read : (xs : List A) (k : ℕ) (x : A) → k < length xs → x ≡ get_or xs k x → IsAt xs k x
  stands_read xs k x low is = subst (λ (y : A). IsAt xs k y) (sym is) (read_there xs k x low)

  -- something is at each place
  pub get_or_there : (xs : List A) (k : ℕ) → k < length xs → (x : A) × IsAt xs k x
  get_or_there [] k low = absurd (omega arith)
  get_or_there (y ∷ ys) zero low = (y, refl)
  get_or_there (y ∷ ys) (suc k) low = get_or_there ys k (omega arith)
