-- How a line of text is given to C, in the room that C has for it: whole, with a byte of 0 after it, or not at all.
use Rattle.std.specs.Prelude.{◌≡◌, ℕ, ◌<◌, ◌≤◌, List, [], ◌∷◌, ◌++◌, length}
use Rattle.nvm_c.specs.Told.{overwritten}

-- The line and a byte of 0 are in the front of the room, and the room's other bytes stay.
pub record IsInRoom (line old new : List ℕ) : Type 0 where
  pub room : length line < length old
  pub written : new ≡ overwritten (line ++ 0 ∷ []) old

-- The line with its byte of 0 is longer than its room, and nothing is written.
pub record IsTooLong (line old new : List ℕ) : Type 0 where
  pub room : length old ≤ length line
  pub kept : new ≡ old
