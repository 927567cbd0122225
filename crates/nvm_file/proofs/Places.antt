-- What stands at a place of a list.
use Rattle.std.proofs.Common.{◌≡◌, ℕ, zero, suc, ◌<◌, List, [], ◌∷◌, length, map, get_or, Some, refl, sym, ap, ◌∙◌, arith}
use Rattle.std.specs.Prelude.{slice_get}
use Rattle.std.proofs.lemmas.Option.{slice_get-get_or}
use mathlib.Core.Option.{some-injective, some-ne-none}
use Rattle.nvm_record.specs.Lists.{IsAt}

pub at_place : {A : Type 0} (xs : List A) (k : ℕ) (d : A) → k < length xs → IsAt xs k (get_or xs k d)
at_place [] k d below = absurd (omega arith)
at_place (x ∷ xs) zero d below = refl
at_place (x ∷ xs) (suc k) d below = at_place xs k d (omega arith)

pub at_mapped : {S T : Type 0} (f : S → T) (xs : List S) (k : ℕ) (d : S) → k < length xs → IsAt (map f xs) k (f (get_or xs k d))
at_mapped f [] k d below = absurd (omega arith)
at_mapped f (x ∷ xs) zero d below = refl
at_mapped f (x ∷ xs) (suc k) d below = at_mapped f xs k d (omega arith)

pub below_length : {A : Type 0} (xs : List A) (k : ℕ) (x : A) → IsAt xs k x → k < length xs
below_length [] k x at = absurd (some-ne-none x (sym at))
below_length (y ∷ ys) zero x at = omega arith
below_length (y ∷ ys) (suc k) x at = let h = below_length ys k x at in omega (arith, h)

pub read_at : {A : Type 0} (xs : List A) (k : ℕ) (x d : A) → IsAt xs k x → get_or xs k d ≡ x
read_at [] k x d at = absurd (some-ne-none x (sym at))
read_at (y ∷ ys) zero x d at = some-injective y x at
read_at (y ∷ ys) (suc k) x d at = read_at ys k x d at

pub got_at : {A : Type 0} (xs : List A) (k : ℕ) (x : A) → IsAt xs k x → slice_get xs k ≡ Some x
got_at xs k x at = slice_get-get_or xs k x (below_length xs k x at) ∙ ap (λ y. Some y) (read_at xs k x x at)
