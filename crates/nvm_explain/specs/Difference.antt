-- Where data first differs from other data.
use Rattle.std.specs.Prelude.{ℕ, ◌+◌, ◌/◌, ◌%◌, ◌==◌, ◌&&◌, nat_le, if◌then◌else◌, List, [], ◌∷◌, length, Option, Some, None}
use Rattle.nvm_explain.specs.declared.difference.Difference.{Difference}
use Rattle.nvm_explain.specs.RecordedData.{most_blocks}

-- The first byte that differs, if one does. There are `at` bytes before these, and the first of all is of block `first`.
abbrev pub difference_from : ℕ → ℕ → ℕ → List ℕ → List ℕ → Option Difference
difference_from first size at [] others = None
difference_from first size at (a ∷ bytes) [] = None
difference_from first size at (a ∷ bytes) (b ∷ others) =
    if a == b then difference_from first size (at + 1) bytes others
    else Some (record { lba = first + at / size; offset = at % size; byte = a; other = b })

-- the first byte that differs, if one does and both have the same length, which are of blocks in a namespace
abbrev pub difference_of : ℕ → ℕ → List ℕ → List ℕ → Option Difference
difference_of first size bytes others =
    if length bytes == length others && nat_le first most_blocks then difference_from first size 0 bytes others else None

-- the first byte of recorded data that differs from what is given, where both are there
abbrev pub read_difference : ℕ → ℕ → Option (List ℕ) → Option (List ℕ) → Option Difference
read_difference first size None given = None
read_difference first size (Some payload) None = None
read_difference first size (Some payload) (Some given) = difference_of first size payload given
