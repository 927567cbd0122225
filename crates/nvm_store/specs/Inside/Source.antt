-- The new blocks that a source gives.
use Rattle.std.specs.Prelude.{◌≡◌, ◌⊎◌, ℕ, ◌+◌, ◌*◌, ◌<◌, ◌≤◌, Bool, true, false, List, length}
use Rattle.nvm_record.specs.declared.block.Block.{Block}
use Rattle.nvm_record.specs.declared.block.Block.TheVariants.{Uncorrectable}
use Rattle.nvm_record.specs.PayloadRef.{lent_bytes}
use Rattle.nvm_record.specs.Step.{block_at}
use Rattle.nvm_store.specs.Inside.Rewrite.{IsRewritten, zero_block}
use Rattle.nvm_store.specs.declared.blocks.source.Source.{Source}
use Rattle.nvm_store.specs.declared.blocks.source.Source.TheVariants.{Data, Zeroes, Marks}

-- the i-th of them
abbrev pub source_block : Source → ℕ → Block
source_block (Data size payload) i = block_at size (lent_bytes payload) i
source_block (Zeroes size) i = zero_block size
source_block Marks i = Uncorrectable

-- whether they are parts of data
abbrev pub has_data : Source → Bool
has_data (Data size payload) = true
has_data (Zeroes size) = false
has_data Marks = false

-- There are at least `count` blocks.
abbrev pub HasBlocks : Source → ℕ → Type 0
HasBlocks (Data size payload) count = count * size ≤ length (lent_bytes payload)
HasBlocks (Zeroes size) count = Unit {0}
HasBlocks Marks count = Unit {0}

-- At least `least` blocks from place `at` are the source's from place `from` on, none of those from place `to` on;
-- or all are as they were, where more than one was asked for.
pub record IsFilled (source : Source) (at from to least count : ℕ) (old new : List Block) : Type 0 where
  pub enough : (least ≤ count) ⊎ ((1 < least) × (count ≡ 0) × (new ≡ old))
  pub few : from + count ≤ to
  pub is : IsRewritten at count (λ i. source_block source (from + i)) old new

-- Its blocks that aren't marked have this size in bytes.
abbrev pub HasSize : Source → ℕ → Type 0
HasSize (Data size payload) own = size ≡ own
HasSize (Zeroes size) own = size ≡ own
HasSize Marks own = Unit {0}

-- They are zeroes.
abbrev pub AreZeroes : Source → Type 0
AreZeroes (Data size payload) = ⊥
AreZeroes (Zeroes size) = Unit {0}
AreZeroes Marks = ⊥
