-- What is at a place of a list.
use Rattle.std.proofs.Common.{◌≡◌, ◌⊎◌, ℕ, zero, suc, ◌<◌, List, [], ◌∷◌, ◌++◌, length, get_or, refl, sym, arith, inl, inr}
use mathlib.Core.Option.{some-injective, some-ne-none}
use Rattle.nvm_record.specs.Lists.{IsAt}

module _ {A : Type 0} where
  pub at_below : (xs : List A) (i : ℕ) (x : A) → IsAt xs i x → i < length xs
  at_below [] i x e = absurd (some-ne-none x (sym e))
  at_below (y ∷ ys) zero x e = omega arith
  at_below (y ∷ ys) (suc i) x e = let h = at_below ys i x e in omega arith

  -- It is what is read there.
  pub get_or_at_place : (xs : List A) (i : ℕ) (x d : A) → IsAt xs i x → get_or xs i d ≡ x
  get_or_at_place [] i x d e = absurd (some-ne-none x (sym e))
  get_or_at_place (y ∷ ys) zero x d e = some-injective y x e
  get_or_at_place (y ∷ ys) (suc i) x d e = get_or_at_place ys i x d e

  -- What is read inside the list is there.
  pub at_read : (xs : List A) (i : ℕ) (d : A) → i < length xs → IsAt xs i (get_or xs i d)
  at_read [] i d lt = absurd (omega arith)
  at_read (y ∷ ys) zero d lt = refl
  at_read (y ∷ ys) (suc i) d lt = at_read ys i d (omega arith)

  pub at_append_left : (xs ys : List A) (i : ℕ) (x : A) → IsAt xs i x → IsAt (xs ++ ys) i x
  at_append_left [] ys i x e = absurd (some-ne-none x (sym e))
  at_append_left (y ∷ xs) ys zero x e = e
  at_append_left (y ∷ xs) ys (suc i) x e = at_append_left xs ys i x e

  pub at_end : (xs ys : List A) (x : A) → IsAt (xs ++ x ∷ ys) (length xs) x
  at_end [] ys x = refl
  at_end (y ∷ xs) ys x = at_end xs ys x

  -- What is in a list with one thing more is that thing at the end, or is before it.
  pub at_push : (xs : List A) (y : A) (i : ℕ) (x : A) → IsAt (xs ++ y ∷ []) i x → IsAt xs i x ⊎ ((i ≡ length xs) × (x ≡ y))
  at_push [] y zero x e = inr (refl, sym (some-injective y x e))
  at_push [] y (suc i) x e = absurd (some-ne-none x (sym e))
  at_push (z ∷ xs) y zero x e = inl e
  at_push (z ∷ xs) y (suc i) x e =
      elim (at_push xs y i x e) [
        | inl here ↦ inl here
        | inr last ↦ let place : i ≡ length xs = last.0 in inr (omega arith, last.1)
      ]
