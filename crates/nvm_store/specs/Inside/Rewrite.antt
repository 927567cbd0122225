-- What a change of a range of blocks does to their list.
use Rattle.std.specs.Prelude.{◌≡◌, ◌⊎◌, ℕ, ◌+◌, ◌<◌, ◌≤◌, List, length, replicate, take, drop}
use Rattle.nvm_record.specs.declared.block.Block.{Block}
use Rattle.nvm_record.specs.declared.block.Block.TheVariants.{Bytes}
use Rattle.nvm_record.specs.Lists.{IsAt}

-- The `count` blocks from place `at` are new ones, given by their places from there, and the others stay.
pub record IsRewritten (at count : ℕ) (news : ℕ → Block) (old new : List Block) : Type 0 where
  pub len : length new ≡ length old
  pub rewritten : (i : ℕ) → i < count → IsAt new (at + i) (news i)
  pub others : (i : ℕ) (block : Block) → (i < at) ⊎ (at + count ≤ i) → IsAt old i block → IsAt new i block

-- a block of `size` zero bytes
abbrev pub zero_block : ℕ → Block
zero_block size = Bytes (replicate size 0)

-- the `count` blocks from place `at`
abbrev pub stretch_of : ℕ → ℕ → List Block → List Block
stretch_of at count blocks = take count (drop at blocks)
