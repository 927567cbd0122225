-- The submission entry of 64 bytes: Base Specification, "Common Command Format"; NVM Command Set
-- Specification, Read and Write, command dwords 10 to 12, and Dataset Management, command dwords 10
-- and 11. All numbers are little endian.
use Rattle.std.specs.Prelude.{◌≡◌, ℕ, ◌+◌, ◌*◌, ◌-◌, ◌%◌, ◌^◌, ◌<◌, ◌≤◌, if◌then◌else◌, List, [], ◌∷◌, ◌++◌, length, take, drop, slice_index, replicate}
use Rattle.byteorder.specs.Endian.{little_number, little_bytes}
use Rattle.nvm_record.specs.Op.{op_of, opcode_of, deallocate_of, attributes_of, IsProperOp, fuse_of, bits_of, carries_blocks, carries_ranges}
use Rattle.nvm_record.specs.Ranges.{range_length, most_ranges, range_count, ranges_of, data_of_ranges}
use Rattle.nvm_record.specs.declared.op.Op.{Op}
use Rattle.nvm_record.specs.declared.op.Op.TheVariants.{Write, Read, WriteUncorrectable, Compare, WriteZeroes, Dataset, Other}
use Rattle.nvm_record.specs.declared.command.Command.{Command}
use Rattle.nvm_record.specs.declared.command_fault.CommandFault.{CommandFault}
use Rattle.nvm_record.specs.declared.command_fault.CommandFault.TheVariants.{CutEntry, CutData, NoMemory}

-- These 64 bytes are an entry of the command. What no field here names may be anything. A Dataset Management has its number
-- of ranges and its attributes in the place of the LBA; its LBA and NLB are read as 0.
pub record IsEntryOf (entry : List ℕ) (c : Command) : Type 0 where
  pub whole : length entry ≡ 64
  pub op : c.op ≡ op_of (slice_index entry 0) (deallocate_of (slice_index entry 44))
  pub fuse : c.fuse ≡ fuse_of (slice_index entry 1 % 4)
  pub cid : c.cid ≡ little_number 2 (drop 2 entry)
  pub nsid : c.nsid ≡ little_number 4 (drop 4 entry)
  pub slba : c.slba ≡ (if carries_ranges c.op then 0 else little_number 8 (drop 40 entry))
  pub nlb : c.nlb ≡ (if carries_ranges c.op then 0 else little_number 2 (drop 48 entry))

-- how many bytes of data go with an operation on `nlb + 1` blocks or `nr + 1` ranges
abbrev pub data_length : ℕ → Op → ℕ → ℕ → ℕ
data_length size op nlb nr =
    if carries_blocks op then (nlb + 1) * size else
    if carries_ranges op then (nr + 1) * range_length else 0

-- The command is as a Dataset Management is read: 1 to 256 ranges of 16 bytes, whole and with context attributes of 0, and
-- an LBA and an NLB of 0.
pub record HasRanges (c : Command) : Type 0 where
  pub slba : c.slba ≡ 0
  pub nlb : c.nlb ≡ 0
  pub some : 1 ≤ range_count c.payload
  pub few : range_count c.payload ≤ most_ranges
  pub plain : c.payload ≡ data_of_ranges (ranges_of c.payload)

-- The command has exactly the data that this operation calls for.
abbrev pub HasDataOf : ℕ → Op → Command → Type 0
HasDataOf size Write c = length c.payload ≡ (c.nlb + 1) * size
HasDataOf size Read c = length c.payload ≡ 0
HasDataOf size WriteUncorrectable c = length c.payload ≡ 0
HasDataOf size Compare c = length c.payload ≡ (c.nlb + 1) * size
HasDataOf size WriteZeroes c = length c.payload ≡ 0
HasDataOf size (Dataset deallocate) c = HasRanges c
HasDataOf size (Other opcode) c = length c.payload ≡ 0

-- The command has exactly the data that it calls for, and its opcode can be read back.
pub record IsWhole (size : ℕ) (c : Command) : Type 0 where
  pub payload : HasDataOf size c.op c
  pub op : IsProperOp c.op

-- A Dataset Management as what was kept before it was of the profile holds it: an unknown opcode 09h, without data.
pub record IsUnknownDataset (c : Command) : Type 0 where
  pub op : c.op ≡ Other 9
  pub payload : length c.payload ≡ 0

-- Each field of the command fits its place in the entry, as its type says.
pub record HasFieldsInRange (c : Command) : Type 0 where
  pub cid : c.cid < 2 ^ 16
  pub nsid : c.nsid < 2 ^ 32
  pub slba : c.slba < 2 ^ 64
  pub nlb : c.nlb < 2 ^ 16

-- how many bytes of data an entry calls for
abbrev pub called_for : ℕ → List ℕ → ℕ
called_for size entry =
    data_length size (op_of (slice_index entry 0) (deallocate_of (slice_index entry 44)))
    (little_number 2 (drop 48 entry)) (slice_index entry 40)

-- what is kept of the data that follows an entry: all of it, but for the context attributes of ranges
abbrev pub data_kept : Op → List ℕ → List ℕ
data_kept op bytes = if carries_ranges op then data_of_ranges (ranges_of bytes) else bytes

-- These bytes are the command's entry and the data that it calls for.
pub record IsSpelling (size : ℕ) (bytes : List ℕ) (c : Command) : Type 0 where
  pub entry : IsEntryOf (take 64 bytes) c
  pub payload : c.payload ≡ data_kept c.op (drop 64 bytes)
  pub called_for : length (drop 64 bytes) ≡ called_for size (take 64 bytes)

-- how many ranges the data holds, zeroes-based: the eight bits that the entry has for it
abbrev pub range_bits : List ℕ → ℕ
range_bits payload = (range_count payload - 1) % 256

-- dwords 10 and 11: the starting LBA, or the number of ranges and the attributes
abbrev pub place_bytes : Command → List ℕ
place_bytes c =
    if carries_ranges c.op
    then range_bits c.payload ∷ 0 ∷ 0 ∷ 0 ∷ attributes_of c.op ∷ 0 ∷ 0 ∷ 0 ∷ []
    else little_bytes 8 c.slba

-- the two bytes of NLB, which are 0 where there are ranges
abbrev pub count_bytes : Command → List ℕ
count_bytes c = if carries_ranges c.op then 0 ∷ 0 ∷ [] else little_bytes 2 c.nlb

-- the entry whose unnamed bits are all 0
abbrev pub entry_of : Command → List ℕ
entry_of c =
    opcode_of c.op ∷ bits_of c.fuse ∷
    (little_bytes 2 c.cid ++ (little_bytes 4 c.nsid ++ (replicate 32 0
    ++ (place_bytes c ++ (count_bytes c ++ replicate 14 0)))))

-- the entry, and the command's data after it
abbrev pub spelling_of : Command → List ℕ
spelling_of c = entry_of c ++ c.payload

-- The bytes begin with a spelling of the command, and then comes the rest.
abbrev pub BeginsWith : ℕ → List ℕ → Command → List ℕ → Type 0
BeginsWith size bytes c rest = (front : List ℕ) × (bytes ≡ front ++ rest) × IsSpelling size front c

-- Why the bytes don't begin with a spelling of any command. Memory isn't a fault of the bytes.
abbrev pub IsCommandFault : ℕ → List ℕ → CommandFault → Type 0
IsCommandFault size bytes CutEntry = length bytes < 64
IsCommandFault size bytes CutData = (64 ≤ length bytes) × (length bytes < 64 + called_for size (take 64 bytes))
IsCommandFault size bytes NoMemory = Unit {0}
