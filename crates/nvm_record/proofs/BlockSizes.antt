-- Blocks keep their size under a step, and data that is read has its blocks' bytes.
use Rattle.std.proofs.Common.{◌≡◌, ℕ, zero, suc, ◌+◌, ◌*◌, ◌-◌, ◌<◌, ◌≤◌, false, List, length, drop, Some, None, inl, inr, arith}
use Rattle.std.proofs.lemmas.Bool.{cases_Bool, or_parts}
use Rattle.std.proofs.lemmas.List.{length-append, length-drop, length-replicate, length-take-le}
use Rattle.std.proofs.Math.Nat.{mul-le-mul_right}
use Rattle.nvm_record.specs.declared.block.Block.{Block}
use Rattle.nvm_record.specs.declared.block.Block.TheVariants.{Bytes, Uncorrectable}
use Rattle.nvm_record.specs.Medium.{Medium, zero_medium, range, is_marked, has_mark, bytes_of, joined, IsOfSize, HasBlockSize}
use Rattle.nvm_record.specs.Step.{HasData, Deed, Operation, writes, zeroes, uncorrectable, reads, compares, pairs, deallocates, compares_equal, block_at, block_after, reaches, range_of, data_of, data_on, medium_after}
use Rattle.nvm_record.proofs.Locality.{reached_bounds, after_reached, after_unreached}

pub zero_sizes : (size : ℕ) → HasBlockSize size (zero_medium size)
zero_sizes size lba = length-replicate size 0

-- a block that is cut from data of enough bytes
block_size : (size blocks i : ℕ) (payload : List ℕ) → length payload ≡ blocks * size → i < blocks → IsOfSize size (block_at size payload i)
block_size size blocks i payload long inside =
    let next : (i + 1) * size ≤ blocks * size = mul-le-mul_right {m = i + 1} {n = blocks} size (omega arith) in
    let whole : (i + 1) * size ≡ i * size + size = omega arith in
    length-take-le size (drop (i * size) payload) (omega (arith, length-drop (i * size) payload))

block_after_size : (size blocks i : ℕ) (before : List Block) (deed : Deed) (old : Block) → HasData (blocks * size) deed → i < blocks
    → IsOfSize size old → IsOfSize size (block_after size before deed i old)
block_after_size size blocks i before (writes payload) old has inside holds = block_size size blocks i payload has inside
block_after_size size blocks i before zeroes old has inside holds = length-replicate size 0
block_after_size size blocks i before uncorrectable old has inside holds = tt
block_after_size size blocks i before reads old has inside holds = holds
block_after_size size blocks i before (compares payload) old has inside holds = holds
block_after_size size blocks i before (pairs payload new) old has inside holds =
    elim (cases_Bool (compares_equal before payload)) [
      | inl t ↦ rw t (block_size size blocks i new has.1 inside)
      | inr f ↦ rw f holds
    ]
block_after_size size blocks i before (deallocates ranges) old has inside holds = length-replicate size 0

pub step_sizes : (size : ℕ) (op : Operation) (m : Medium) → HasData (op.blocks * size) op.deed → HasBlockSize size m
    → HasBlockSize size (medium_after size op m)
step_sizes size op m has holds lba =
    elim (cases_Bool (reaches op lba)) [
      | inl t ↦
          let bounds = reached_bounds op lba t in
          rw (after_reached size op m lba t)
          (block_after_size size op.blocks (lba - op.first) (range_of op m) op.deed (m lba) has (omega (arith, bounds.0, bounds.1)) (holds lba))
      | inr f ↦ rw (after_unreached size op m lba f) (holds lba)
    ]

unmarked_size : (size : ℕ) (b : Block) → IsOfSize size b → is_marked b ≡ false → length (bytes_of b) ≡ size
unmarked_size size (Bytes bytes) has unmarked = has
unmarked_size size Uncorrectable has unmarked = absurd (cc)

joined_size : (size : ℕ) (m : Medium) (first n : ℕ) → HasBlockSize size m → has_mark (range m first n) ≡ false
    → length (joined (range m first n)) ≡ n * size
joined_size size m first zero holds none = omega arith
joined_size size m first (suc n) holds none =
    let both : (is_marked (m first) ≡ false) × (has_mark (range m (suc first) n) ≡ false) = or_parts _ _ none in
    omega (
      arith,
      length-append (bytes_of (m first)) (joined (range m (suc first) n)),
      unmarked_size size (m first) (holds first) both.0,
      joined_size size m (suc first) n holds both.1,
    )

read_size : (size : ℕ) (m : Medium) (first n : ℕ) (deed : Deed) (payload : List ℕ) → HasBlockSize size m
    → data_on (range m first n) deed ≡ Some payload → length payload ≡ n * size
read_size size m first n (writes new) payload holds read = absurd (cc)
read_size size m first n zeroes payload holds read = absurd (cc)
read_size size m first n uncorrectable payload holds read = absurd (cc)
read_size size m first n reads payload holds read =
    elim (cases_Bool (has_mark (range m first n))) [
      | inl t ↦ let bad : None ≡ Some payload = rw t at read in absurd (cc)
      | inr f ↦ let same : Some (joined (range m first n)) ≡ Some payload = rw f at read in
          let is : payload ≡ joined (range m first n) = cc in
          rw is (joined_size size m first n holds f)
    ]
read_size size m first n (compares new) payload holds read = absurd (cc)
read_size size m first n (pairs old new) payload holds read = absurd (cc)
read_size size m first n (deallocates ranges) payload holds read = absurd (cc)

pub data_size : (size : ℕ) (op : Operation) (m : Medium) (payload : List ℕ) → HasBlockSize size m → data_of op m ≡ Some payload
    → length payload ≡ op.blocks * size
data_size size op m payload holds read = read_size size m op.first op.blocks op.deed payload holds read
