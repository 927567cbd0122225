-- A list's elements without repeats.
use Rattle.std.specs.Prelude.{List, [], ◌∷◌, Bool, filter, not}

-- each of them once, in the order in which they first occur
abbrev pub once : {A : Type 0} → (A → A → Bool) → List A → List A
once same [] = []
once same (x ∷ more) = x ∷ filter (λ y. not (same y x)) (once same more)
