-- The bytes of what is left of a file.
use Rattle.std.specs.Prelude.{◌≡◌, ℕ, List, ◌++◌, drop}
use Rattle.nvm_file.specs.declared.rest.Rest.{Rest}

unfoldable pub left_of : Rest → List ℕ
left_of rest = drop rest.from rest.file.now

-- The bytes end with these.
abbrev pub EndsWith : List ℕ → List ℕ → Type 0
EndsWith bytes end = (front : List ℕ) × (bytes ≡ front ++ end)
