-- What a command does to a medium, LBA by LBA, and what is reported to its host: NVM Command Set
-- Specification, the commands Write, Read, Write Zeroes, Write Uncorrectable, Compare and Dataset Management; Base
-- Specification, "Fused Operation". No unit, part or version occurs here. A block is marked where it is
-- Uncorrectable. This project's own: zeroes clear a mark, deallocated blocks are zeroes, and a mark decides a comparison
-- before any byte does.
use Rattle.std.specs.Prelude.{◌≡◌, ℕ, ◌+◌, ◌*◌, ◌-◌, nat_le, nat_lt, if◌then◌else◌, List, length, take, drop, replicate, Bool, true, false, ◌&&◌, IsTrue, Option, Some, None}
use Rattle.std.specs.Str.{bytes_eq}
use Rattle.nvm_record.specs.declared.block.Block.{Block}
use Rattle.nvm_record.specs.declared.block.Block.TheVariants.{Bytes, Uncorrectable}
use Rattle.nvm_record.specs.declared.lba_range.LbaRange.{LbaRange}
use Rattle.nvm_record.specs.declared.status.Status.{Status}
use Rattle.nvm_record.specs.declared.status.Statuses.{Statuses}
use Rattle.nvm_record.specs.declared.status.Statuses.TheVariants.{One, Two}
use Rattle.nvm_record.specs.Status.{successful_completion, unrecovered_read_error, compare_failure, aborted_due_to_failed_fused_command}
use Rattle.nvm_record.specs.Medium.{Medium, range, has_mark, joined}
use Rattle.nvm_record.specs.Ranges.{ranges_have, AreRangesWithin}

-- what is done to a range of blocks
pub data Deed : Type 0 where
  writes : List ℕ → Deed
  zeroes : Deed
  uncorrectable : Deed
  reads : Deed
  compares : List ℕ → Deed
  -- a fused Compare and Write: the data to compare with, then the data to write
  pairs : List ℕ → List ℕ → Deed
  -- the Deallocate of a Dataset Management: those LBAs of the operation that lie in one of the ranges
  deallocates : List LbaRange → Deed

-- a deed on the `blocks` LBAs from `first`
pub record Operation : Type 0 where
  pub first : ℕ
  pub blocks : ℕ
  pub deed : Deed

-- The data of the deed, where it has any, is of `bytes` bytes.
abbrev pub HasData : ℕ → Deed → Type 0
HasData bytes (writes payload) = length payload ≡ bytes
HasData bytes zeroes = Unit {0}
HasData bytes uncorrectable = Unit {0}
HasData bytes reads = Unit {0}
HasData bytes (compares payload) = length payload ≡ bytes
HasData bytes (pairs payload new) = (length payload ≡ bytes) × (length new ≡ bytes)
HasData bytes (deallocates ranges) = Unit {0}

-- The ranges of the deed, where it has any, are some, and lie among the `blocks` LBAs from `first`.
abbrev pub HasRangesWithin : ℕ → ℕ → Deed → Type 0
HasRangesWithin first blocks (writes payload) = Unit {0}
HasRangesWithin first blocks zeroes = Unit {0}
HasRangesWithin first blocks uncorrectable = Unit {0}
HasRangesWithin first blocks reads = Unit {0}
HasRangesWithin first blocks (compares payload) = Unit {0}
HasRangesWithin first blocks (pairs payload new) = Unit {0}
HasRangesWithin first blocks (deallocates ranges) = AreRangesWithin first blocks ranges

-- the deed has to do with this LBA of its operation: a Deallocate with those in its ranges, each other deed with all
abbrev pub is_about : Deed → ℕ → Bool
is_about (writes payload) lba = true
is_about zeroes lba = true
is_about uncorrectable lba = true
is_about reads lba = true
is_about (compares payload) lba = true
is_about (pairs payload new) lba = true
is_about (deallocates ranges) lba = ranges_have ranges lba

-- the comparison of blocks with data holds: none is marked, and no byte differs
abbrev pub compares_equal : List Block → List ℕ → Bool
compares_equal blocks payload = if has_mark blocks then false else bytes_eq (joined blocks) payload

-- how the comparison ends: a mark decides before any byte does
abbrev pub comparison : List Block → List ℕ → Status
comparison blocks payload =
    if has_mark blocks then unrecovered_read_error else
    if compares_equal blocks payload then successful_completion else compare_failure

-- what is reported to the host, by the blocks of the range
abbrev pub statuses_on : List Block → Deed → Statuses
statuses_on blocks (writes payload) = One successful_completion
statuses_on blocks zeroes = One successful_completion
statuses_on blocks uncorrectable = One successful_completion
statuses_on blocks reads = One (if has_mark blocks then unrecovered_read_error else successful_completion)
statuses_on blocks (compares payload) = One (comparison blocks payload)
statuses_on blocks (pairs payload new) =
    Two (comparison blocks payload) (if compares_equal blocks payload then successful_completion else aborted_due_to_failed_fused_command)
statuses_on blocks (deallocates ranges) = One successful_completion

-- a Read's data, by the blocks of the range
abbrev pub data_on : List Block → Deed → Option (List ℕ)
data_on blocks (writes payload) = None
data_on blocks zeroes = None
data_on blocks uncorrectable = None
data_on blocks reads = if has_mark blocks then None else Some (joined blocks)
data_on blocks (compares payload) = None
data_on blocks (pairs payload new) = None
data_on blocks (deallocates ranges) = None

-- the block at place i of data
abbrev pub block_at : ℕ → List ℕ → ℕ → Block
block_at size payload i = Bytes (take size (drop (i * size) payload))

-- the block at place i of the range, where `old` stood there before and the deed has to do with it
abbrev pub block_after : ℕ → List Block → Deed → ℕ → Block → Block
block_after size blocks (writes payload) i old = block_at size payload i
block_after size blocks zeroes i old = Bytes (replicate size 0)
block_after size blocks uncorrectable i old = Uncorrectable
block_after size blocks reads i old = old
block_after size blocks (compares payload) i old = old
block_after size blocks (pairs payload new) i old = if compares_equal blocks payload then block_at size new i else old
block_after size blocks (deallocates ranges) i old = Bytes (replicate size 0)

-- the blocks of the operation's range
abbrev pub range_of : Operation → Medium → List Block
range_of op m = range m op.first op.blocks

-- the LBA lies in the operation's range
abbrev pub is_in_range : Operation → ℕ → Bool
is_in_range op lba = nat_le op.first lba && nat_lt lba (op.first + op.blocks)

-- the operation sees or changes the block at this LBA
abbrev pub reaches : Operation → ℕ → Bool
reaches op lba = is_about op.deed lba && is_in_range op lba

-- the statuses of the operation: one for a command, two for a pair
abbrev pub statuses_of : Operation → Medium → Statuses
statuses_of op m = statuses_on (range_of op m) op.deed

-- a Read's data, where it succeeds
abbrev pub data_of : Operation → Medium → Option (List ℕ)
data_of op m = data_on (range_of op m) op.deed

-- The medium after the operation. A block that it doesn't reach stays as it is.
abbrev pub medium_after : ℕ → Operation → Medium → Medium
medium_after size op m lba =
    if reaches op lba then block_after size (range_of op m) op.deed (lba - op.first) (m lba) else m lba

-- The two media hold the same blocks on the operation's range.
abbrev pub AgreeOn : Operation → Medium → Medium → Type 0
AgreeOn op m n = (lba : ℕ) → IsTrue (is_in_range op lba) → m lba ≡ n lba
