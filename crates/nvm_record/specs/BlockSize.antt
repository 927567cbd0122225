-- The sizes that a logical block can have here.
use Rattle.std.specs.Prelude.{◌≡◌, ◌⊎◌, ℕ}

-- a block has 512 or 4,096 bytes of data
abbrev pub IsBlockSize : ℕ → Type 0
IsBlockSize bytes = (bytes ≡ 512) ⊎ (bytes ≡ 4096)
