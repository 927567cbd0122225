-- What a namespace holds (NVM Command Set Specification, "Logical Block").
use Rattle.std.specs.Prelude.{◌≡◌, ℕ, zero, suc, List, [], ◌∷◌, ◌++◌, length, replicate, Bool, true, false, ◌||◌}
use Rattle.nvm_record.specs.declared.block.Block.{Block}
use Rattle.nvm_record.specs.declared.block.Block.TheVariants.{Bytes, Uncorrectable}

-- the block at each LBA
abbrev pub Medium : Type 0
Medium = ℕ → Block

-- all blocks start as zero bytes
abbrev pub zero_medium : ℕ → Medium
zero_medium size lba = Bytes (replicate size 0)

-- The block is marked, or has exactly `size` bytes.
abbrev pub IsOfSize : ℕ → Block → Type 0
IsOfSize size (Bytes bytes) = length bytes ≡ size
IsOfSize size Uncorrectable = Unit {0}

-- Each block of the medium is of this size.
abbrev pub HasBlockSize : ℕ → Medium → Type 0
HasBlockSize size m = (lba : ℕ) → IsOfSize size (m lba)

-- the blocks of the n LBAs from `first`
abbrev pub range : Medium → ℕ → ℕ → List Block
range m first zero = []
range m first (suc n) = m first ∷ range m (suc first) n

-- the block is marked by Write Uncorrectable
abbrev pub is_marked : Block → Bool
is_marked (Bytes bytes) = false
is_marked Uncorrectable = true

-- some block is marked
abbrev pub has_mark : List Block → Bool
has_mark [] = false
has_mark (b ∷ bs) = is_marked b || has_mark bs

-- the bytes of a block, none of a marked one
abbrev pub bytes_of : Block → List ℕ
bytes_of (Bytes bytes) = bytes
bytes_of Uncorrectable = []

-- the bytes of the blocks, one block after the other
abbrev pub joined : List Block → List ℕ
joined [] = []
joined (b ∷ bs) = bytes_of b ++ joined bs
