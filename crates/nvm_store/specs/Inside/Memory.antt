-- The blocks of a unit, wherever in memory they are.
use Rattle.std.specs.Prelude.{◌≡◌, ℕ, ◌^◌, ◌<◌, ◌≤◌, List, length, replicate, Bool, false, true}
use Rattle.nvm_record.specs.declared.block.Block.{Block}
use Rattle.nvm_store.specs.declared.blocks.Memory.{Memory}
use Rattle.nvm_store.specs.declared.blocks.Memory.TheVariants.{Shared, Zeroes, Flat, Paged}
use Rattle.nvm_store.specs.Contents.{Contents}
use Rattle.nvm_store.specs.Inside.Flat.{SizedBlocks}
use Rattle.nvm_store.specs.Inside.Rewrite.{zero_block}
use Rattle.nvm_store.specs.Inside.Sound.{AreSound}

-- Blocks, the bytes of each that isn't marked, and whether they are in memory that is theirs alone.
pub record InMemory : Type 0 where
  pub size : ℕ
  pub list : List Block
  pub own : Bool

-- their list
abbrev pub listed : ℕ → Memory → List Block
listed size (Shared blocks) = blocks
listed size (Zeroes count) = replicate count (zero_block size)
listed size (Flat blocks) = blocks.list
listed size (Paged blocks) = blocks.list

-- whether the memory is theirs alone
abbrev pub is_own : Memory → Bool
is_own (Shared blocks) = false
is_own (Zeroes count) = true
is_own (Flat blocks) = true
is_own (Paged blocks) = true

-- There are few enough, and none is large.
pub record AreBounded (size count : ℕ) : Type 0 where
  pub few : count < 2 ^ 32
  pub small : size ≤ 65536

-- They have this size, and are few.
pub record AreFewOfSize (size : ℕ) (blocks : SizedBlocks) : Type 0 where
  pub same : blocks.size ≡ size
  pub few : AreBounded size (length blocks.list)

-- Memory that is theirs alone is of few blocks of this size.
abbrev pub FitsSize : ℕ → Memory → Type 0
FitsSize size (Shared blocks) = Unit {0}
FitsSize size (Zeroes count) = AreBounded size count
FitsSize size (Flat blocks) = AreFewOfSize size blocks
FitsSize size (Paged blocks) = AreFewOfSize size blocks

-- A unit of this first LBA and block size has these blocks.
pub record IsUnit (first size : ℕ) (blocks : InMemory) : Type 0 where
  pub sound : AreSound first size blocks.list
  pub same : blocks.size ≡ size

-- the unit of these blocks from this LBA on
abbrev pub unit_from : ℕ → InMemory → Contents
unit_from first blocks = record { first = first; size = blocks.size; blocks = blocks.list }
