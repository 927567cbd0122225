-- Blocks of one size in one piece of memory, which has their bytes one block after the other. Some of them are marked.
use Rattle.std.specs.Prelude.{◌≡◌, ℕ, zero, suc, ◌+◌, ◌*◌, List, [], ◌∷◌, ◌++◌, Bool, false, length, take, drop, replicate}
use Rattle.std.specs.Bool.{if◌then◌else◌}
use Rattle.nvm_record.specs.declared.block.Block.{Block}
use Rattle.nvm_record.specs.declared.block.Block.TheVariants.{Bytes, Uncorrectable}

-- Blocks, and the bytes that each has that isn't marked.
pub record SizedBlocks : Type 0 where
  pub size : ℕ
  pub list : List Block

-- `count` blocks of `size` bytes, cut from these bytes
abbrev pub cut : ℕ → ℕ → List ℕ → List Block
cut zero size bytes = []
cut (suc count) size bytes = Bytes (take size bytes) ∷ cut count size (drop size bytes)

-- the bytes with new ones from place `from` on
abbrev pub with_bytes : ℕ → List ℕ → List ℕ → List ℕ
with_bytes from new bytes = take from bytes ++ (new ++ drop (from + length new) bytes)

-- the blocks, of which those are marked that these say
abbrev pub marked_as : List Bool → List Block → List Block
marked_as [] blocks = blocks
marked_as (mark ∷ marks) [] = []
marked_as (mark ∷ marks) (block ∷ blocks) = (if mark then Uncorrectable else block) ∷ marked_as marks blocks

-- There are bytes and a mark for each block, and without `marked` none is marked.
pub record AreFlat (size : ℕ) (bytes : List ℕ) (marks : List Bool) (marked : Bool) : Type 0 where
  pub whole : length bytes ≡ length marks * size
  pub none : marked ≡ false → marks ≡ replicate (length marks) false
