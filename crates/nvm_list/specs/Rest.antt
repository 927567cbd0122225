-- What is left of a text while it is read part by part.
use Rattle.std.specs.Prelude.{◌≡◌, ℕ, ◌+◌, Bool, false, List, [], ◌∷◌, length, Option, Some, None}
use Rattle.std.specs.List.{slice_split}
use Rattle.std.specs.Borrow.{Bor}
use Rattle.nvm_list.specs.Words.{is_blank}

-- the parts that are left: none after the last
abbrev pub parts_left : (ℕ → Bool) → Option (Bor (List ℕ)) → List (List ℕ)
parts_left ends None = []
parts_left ends (Some rest) = slice_split ends rest.now

-- how many bytes are left, with the end after them
abbrev pub bytes_left : Option (Bor (List ℕ)) → ℕ
bytes_left None = 0
bytes_left (Some rest) = length rest.now + 1

-- nothing is left, or a byte of a word comes next
abbrev pub IsAtWord : List ℕ → Type 0
IsAtWord [] = Unit {0}
IsAtWord (b ∷ bytes) = is_blank b ≡ false
