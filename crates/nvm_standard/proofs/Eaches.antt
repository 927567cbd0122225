-- What holds of each element before a place, and of all.
use Rattle.std.proofs.Common.{◌≡◌, ℕ, ◌+◌, ◌<◌, ◌≤◌, inl, inr, List, Some, All, length, slice_get, get_or, subst, sym, ◌∙◌, arith}
use Rattle.std.proofs.lemmas.Option.{get_or_from_slice_get, slice_get-get_or, slice_get_within}
use Rattle.nvm_standard.proofs.Standing.{earlier_or_last, some_same}

abbrev pub EachTo : {A : Type 0} → (A → Type 0) → List A → ℕ → Type 0
EachTo {A} P xs k = (i : ℕ) (x : A) → i < k → slice_get xs i ≡ Some x → P x

pub each_more : {A : Type 0} (P : A → Type 0) (xs : List A) (k : ℕ) (y : A) → slice_get xs k ≡ Some y → P y → EachTo P xs k → EachTo P xs (k + 1)
each_more P xs k y at right before i x below e =
    elim (earlier_or_last i k below) [
      | inl h ↦ before i x h e
      | inr same ↦ subst P (some_same y x (sym at ∙ subst (λ (j : ℕ). slice_get xs j ≡ Some x) same e)) right
    ]

pub each_all : {A : Type 0} (P : A → Type 0) (xs : List A) (k : ℕ) → length xs ≤ k → EachTo P xs k → All P xs
each_all P xs k long before i d h = before i (get_or xs i d) (omega (arith, h, long)) (slice_get-get_or xs i d h)

pub one_of_all : {A : Type 0} (P : A → Type 0) (xs : List A) (k : ℕ) (x : A) → All P xs → slice_get xs k ≡ Some x → P x
one_of_all P xs k x all e = subst P (get_or_from_slice_get xs k x x e) (all k x (slice_get_within xs k x e))
