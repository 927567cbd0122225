-- What was found in each unit, at the place of its number.
use Rattle.std.proofs.Common.{◌≡◌, ℕ, zero, suc, ◌+◌, List, [], ◌∷◌, subst, arith}
use Rattle.std.specs.List.{AllZip, range_with_len}
use mathlib.Core.Option.{some-injective}
use Rattle.nvm_record.specs.Lists.{IsAt}
use Rattle.nvm_audit.proofs.Standing.{none_stands}

module _ {A : Type 0} (P : ℕ → A → Type 0) where
  -- of the numbers from `a` on
  found_from : (a n : ℕ) (ys : List A) → AllZip P (range_with_len a n) ys → (k : ℕ) (y : A) → IsAt ys k y → P (a + k) y
  found_from a zero [] all k y at = absurd (none_stands k y at)
  found_from a zero (z ∷ zs) all k y at = absurd all
  found_from a (suc n) [] all k y at = absurd (none_stands k y at)
  found_from a (suc n) (z ∷ zs) all zero y at =
      let here : a ≡ a + 0 = omega arith in
      subst (λ (m : ℕ). P m y) here (subst (λ (x : A). P a x) (some-injective z y at) all.0)
  found_from a (suc n) (z ∷ zs) all (suc k) y at =
      let behind : a + 1 + k ≡ a + suc k = omega arith in
      subst (λ (m : ℕ). P m y) behind (found_from (a + 1) n zs all.1 k y at)

  pub found_at : (n : ℕ) (ys : List A) → AllZip P (range_with_len 0 n) ys → (k : ℕ) (y : A) → IsAt ys k y → P k y
  found_at n ys all k y at =
      let same : 0 + k ≡ k = omega arith in
      subst (λ (m : ℕ). P m y) same (found_from 0 n ys all k y at)
