-- The first elements of a list, as it is made longer.
use Rattle.std.proofs.Common.{◌≡◌, ℕ, zero, suc, ◌<◌, ◌≤◌, List, [], ◌∷◌, ◌++◌, length, take, refl, ap, arith}

module _ {A : Type 0} where
  -- There is room for one more.
  pub take_room : (most : ℕ) (xs : List A) (x : A) → length (take most xs) < most → take most xs ++ x ∷ [] ≡ take most (xs ++ x ∷ [])
  take_room zero xs x low = absurd (omega (arith, low))
  take_room (suc zero) [] x low = refl
  take_room (suc (suc n)) [] x low = refl
  take_room (suc n) (y ∷ xs) x low = ap (λ (ys : List A). y ∷ ys) (take_room n xs x (omega (arith, low)))

  -- There is none.
  pub take_full : (most : ℕ) (xs ys : List A) → most ≤ length (take most xs) → take most xs ≡ take most (xs ++ ys)
  take_full zero xs ys full = refl
  take_full (suc n) [] ys full = absurd (omega (arith, full))
  take_full (suc n) (x ∷ xs) ys full = ap (λ (zs : List A). x ∷ zs) (take_full n xs ys (omega (arith, full)))

  -- There are no more than that, where there is room left.
  pub take_whole : (most : ℕ) (xs : List A) → length (take most xs) < most → take most xs ≡ xs
  take_whole zero xs low = absurd (omega (arith, low))
  take_whole (suc n) [] low = refl
  take_whole (suc n) (x ∷ xs) low = ap (λ (ys : List A). x ∷ ys) (take_whole n xs (omega (arith, low)))
