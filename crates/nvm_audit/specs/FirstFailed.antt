-- The first of some checks that doesn't pass (own).
use Rattle.std.specs.Prelude.{◌≡◌, ◌⊎◌, List, [], ◌∷◌}

-- This check is the first that doesn't pass: all before it do.
abbrev pub IsFirstFailed : {C : Type 0} → (C → Type 0) → List C → C → Type 0
IsFirstFailed Passes [] check = ⊥
IsFirstFailed Passes (c ∷ cs) check = ((check ≡ c) × ¬ (Passes c)) ⊎ (Passes c × IsFirstFailed Passes cs check)
