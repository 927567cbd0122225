-- What the seat of one worker carries.
use Rattle.std.specs.Prelude.{ℕ, List, [], ◌∷◌}

-- The list of a seat that has one. A claim's seat always has.
abbrev pub only : List (List ℕ) → List ℕ
only [] = []
only (drawn ∷ others) = drawn
