-- What is noted, one after the other.
use Rattle.std.proofs.Common.{◌≡◌, List, [], ◌∷◌, ◌++◌, Contains, subst, inl, inr, arith}
use Rattle.std.proofs.lemmas.List.Elements.{Contains-append_cases}
use Rattle.nvm_trace.proofs.Walk.{first_or_behind}

pub none_noted : {A : Type 0} (x : A) → Contains [] x → ⊥
none_noted x has = let low = has.1 in omega (arith, low)

-- What holds of each that is noted holds of each after one more.
pub pushed : {A : Type 0} (P : A → Type 0) (noted new : List A) (value : A) → ((y : A) → Contains noted y → P y) → new ≡ noted ++ value ∷ []
    → P value → (y : A) → Contains new y → P y
pushed P noted new value each is here y has =
    elim (Contains-append_cases noted (value ∷ []) y (subst (λ (l : List _). Contains l y) is has)) [
      | inl old ↦ each y old
      | inr end ↦ elim (first_or_behind value [] y end) [ inl same ↦ subst P same here | inr behind ↦ absurd (none_noted y behind) ]
    ]
