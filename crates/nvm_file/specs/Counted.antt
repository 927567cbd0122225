-- A list in a record file (own). All numbers of the file are little endian.
use Rattle.std.specs.Prelude.{ℕ, List, ◌++◌, length}
use Rattle.std.specs.List.{flat_map}
use Rattle.byteorder.specs.Endian.{little_bytes}

-- how many items there are, in four bytes, and then the bytes of each item in turn
abbrev pub counted : {A : Type 0} → (A → List ℕ) → List A → List ℕ
counted item_bytes items = little_bytes 4 (length items) ++ flat_map item_bytes items
