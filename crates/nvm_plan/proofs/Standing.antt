-- What is at a place of a list.
use Rattle.std.proofs.Common.{◌≡◌, ℕ, zero, suc, ◌<◌, List, [], ◌∷◌, length, get_or, refl, arith}
use Rattle.nvm_record.specs.Lists.{IsAt}

pub at_within : {A : Type 0} (xs : List A) (i : ℕ) (x : A) → IsAt xs i x → i < length xs
at_within [] i x at = absurd (cc at)
at_within (y ∷ ys) zero x at = omega arith
at_within (y ∷ ys) (suc i) x at = omega (arith, at_within ys i x at)

pub at_value : {A : Type 0} (xs : List A) (i : ℕ) (x d : A) → IsAt xs i x → get_or xs i d ≡ x
at_value [] i x d at = absurd (cc at)
at_value (y ∷ ys) zero x d at = cc at
at_value (y ∷ ys) (suc i) x d at = at_value ys i x d at

pub at_read : {A : Type 0} (xs : List A) (i : ℕ) (d : A) → i < length xs → IsAt xs i (get_or xs i d)
at_read [] i d below = absurd (omega (arith, below))
at_read (y ∷ ys) zero d below = refl
at_read (y ∷ ys) (suc i) d below = at_read ys i d (omega arith)
