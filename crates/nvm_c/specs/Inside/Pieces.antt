-- A piece of bytes.
use Rattle.std.specs.Prelude.{ℕ, List, take, drop}

-- the bytes from a place on, at most so many
abbrev pub piece_of : ℕ → ℕ → List ℕ → List ℕ
piece_of from most bytes = take most (drop from bytes)
