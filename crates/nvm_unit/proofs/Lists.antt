-- Lists that are read by place.
use Rattle.std.proofs.Common.{◌≡◌, ◌⊎◌, ℕ, zero, suc, ◌+◌, ◌<◌, List, [], ◌∷◌, ◌++◌, length, map, take, drop, refl, sym, ◌∙◌, arith, inl, inr}
use mathlib.Core.Option.{some-injective, some-ne-none}
use Rattle.nvm_record.specs.Lists.{IsAt}

module _ {A : Type 0} where
  -- One thing is at a place.
  pub at_one : (xs : List A) (i : ℕ) (x y : A) → IsAt xs i x → IsAt xs i y → x ≡ y
  at_one xs i x y e f = some-injective x y (sym e ∙ f)

  pub at_below : (xs : List A) (i : ℕ) (x : A) → IsAt xs i x → i < length xs
  at_below [] i x e = absurd (some-ne-none x (sym e))
  at_below (y ∷ ys) zero x e = omega arith
  at_below (y ∷ ys) (suc i) x e = let h = at_below ys i x e in omega arith

  pub at_map_back : {B : Type 0} (f : A → B) (xs : List A) (i : ℕ) (y : B) → IsAt (map f xs) i y → (x : A) × IsAt xs i x × (y ≡ f x)
  at_map_back f [] i y e = absurd (some-ne-none y (sym e))
  at_map_back f (x ∷ xs) zero y e = (x, refl, sym (some-injective (f x) y e))
  at_map_back f (x ∷ xs) (suc i) y e = at_map_back f xs i y e

  -- What is in two lists, one after the other, is in one of them.
  pub at_append : (xs ys : List A) (i : ℕ) (y : A) → IsAt (xs ++ ys) i y
      → IsAt xs i y ⊎ ((k : ℕ) × (i ≡ length xs + k) × IsAt ys k y)
  at_append [] ys i y e = inr (i, omega arith, e)
  at_append (x ∷ xs) ys zero y e = inl e
  at_append (x ∷ xs) ys (suc i) y e =
      elim (at_append xs ys i y e) [
        | inl here ↦ inl here
        | inr there ↦ let place : i ≡ length xs + there.0 = there.1 in inr (there.0, omega arith, there.2)
      ]

  pub at_append_right : (xs ys : List A) (k : ℕ) (y : A) → IsAt ys k y → IsAt (xs ++ ys) (length xs + k) y
  at_append_right [] ys k y e = let n : 0 + k ≡ k = omega arith in rw n e
  at_append_right (x ∷ xs) ys k y e = let n : suc (length xs) + k ≡ suc (length xs + k) = omega arith in rw n (at_append_right xs ys k y e)

  pub at_take_back : (n : ℕ) (xs : List A) (i : ℕ) (y : A) → IsAt (take n xs) i y → IsAt xs i y × (i < n)
  at_take_back zero xs i y e = absurd (some-ne-none y (sym e))
  at_take_back (suc n) [] i y e = absurd (some-ne-none y (sym e))
  at_take_back (suc n) (x ∷ xs) zero y e = (e, omega arith)
  at_take_back (suc n) (x ∷ xs) (suc i) y e = let h = at_take_back n xs i y e in let lt : i < n = h.1 in (h.0, omega arith)

  pub at_take : (n : ℕ) (xs : List A) (i : ℕ) (y : A) → IsAt xs i y → i < n → IsAt (take n xs) i y
  at_take zero xs i y e lt = absurd (omega arith)
  at_take (suc n) [] i y e lt = e
  at_take (suc n) (x ∷ xs) zero y e lt = e
  at_take (suc n) (x ∷ xs) (suc i) y e lt = at_take n xs i y e (omega arith)

  pub at_drop_back : (n : ℕ) (xs : List A) (i : ℕ) (y : A) → IsAt (drop n xs) i y → IsAt xs (n + i) y
  at_drop_back zero xs i y e = let m : 0 + i ≡ i = omega arith in rw m e
  at_drop_back (suc n) [] i y e = absurd (some-ne-none y (sym e))
  at_drop_back (suc n) (x ∷ xs) i y e = let m : suc n + i ≡ suc (n + i) = omega arith in rw m (at_drop_back n xs i y e)

  pub at_drop : (n : ℕ) (xs : List A) (i : ℕ) (y : A) → IsAt xs (n + i) y → IsAt (drop n xs) i y
  at_drop zero xs i y e = let m : 0 + i ≡ i = omega arith in rw m at e
  at_drop (suc n) [] i y e = e
  at_drop (suc n) (x ∷ xs) i y e = let m : suc n + i ≡ suc (n + i) = omega arith in at_drop n xs i y (rw m at e)
