-- Opcodes and FUSE bits: NVM Command Set Specification, "NVM Command Set opcodes"; Base
-- Specification, "Common Command Format", command dword 0.
use Rattle.std.specs.Prelude.{◌≡◌, ◌==◌, ℕ, ◌/◌, ◌%◌, Bool, true, false, if◌then◌else◌}
use Rattle.nvm_record.specs.declared.op.Op.{Op}
use Rattle.nvm_record.specs.declared.op.Op.TheVariants.{Write, Read, WriteUncorrectable, Compare, WriteZeroes, Dataset, Other}
use Rattle.nvm_record.specs.declared.op.Fuse.{Fuse}
use Rattle.nvm_record.specs.declared.op.Fuse.TheVariants.{Normal, First, Second, Reserved}

-- what an opcode asks for; the Deallocate bit counts for Dataset Management alone
abbrev pub op_of : ℕ → Bool → Op
op_of opcode deallocate =
    if opcode == 1 then Write else
    if opcode == 2 then Read else
    if opcode == 4 then WriteUncorrectable else
    if opcode == 5 then Compare else
    if opcode == 8 then WriteZeroes else
    if opcode == 9 then Dataset deallocate else Other opcode

-- the opcode that asks for it
abbrev pub opcode_of : Op → ℕ
opcode_of Write = 1
opcode_of Read = 2
opcode_of WriteUncorrectable = 4
opcode_of Compare = 5
opcode_of WriteZeroes = 8
opcode_of (Dataset deallocate) = 9
opcode_of (Other opcode) = opcode

-- an `Other` holds none of the opcodes that have a name
abbrev pub IsProperOp : Op → Type 0
IsProperOp Write = Unit {0}
IsProperOp Read = Unit {0}
IsProperOp WriteUncorrectable = Unit {0}
IsProperOp Compare = Unit {0}
IsProperOp WriteZeroes = Unit {0}
IsProperOp (Dataset deallocate) = Unit {0}
IsProperOp (Other opcode) = op_of opcode false ≡ Other opcode

-- the Deallocate bit, bit 2 of the lowest byte of command dword 11
abbrev pub deallocate_of : ℕ → Bool
deallocate_of byte = byte / 4 % 2 == 1

-- that byte, where its other bits are 0
abbrev pub attributes_of : Op → ℕ
attributes_of Write = 0
attributes_of Read = 0
attributes_of WriteUncorrectable = 0
attributes_of Compare = 0
attributes_of WriteZeroes = 0
attributes_of (Dataset deallocate) = if deallocate then 4 else 0
attributes_of (Other opcode) = 0

-- what the two FUSE bits say
abbrev pub fuse_of : ℕ → Fuse
fuse_of bits =
    if bits == 0 then Normal else
    if bits == 1 then First else
    if bits == 2 then Second else Reserved

-- the FUSE bits
abbrev pub bits_of : Fuse → ℕ
bits_of Normal = 0
bits_of First = 1
bits_of Second = 2
bits_of Reserved = 3

-- blocks of data go with a Write and with a Compare
abbrev pub carries_blocks : Op → Bool
carries_blocks Write = true
carries_blocks Read = false
carries_blocks WriteUncorrectable = false
carries_blocks Compare = true
carries_blocks WriteZeroes = false
carries_blocks (Dataset deallocate) = false
carries_blocks (Other opcode) = false

-- ranges go with a Dataset Management
abbrev pub carries_ranges : Op → Bool
carries_ranges Write = false
carries_ranges Read = false
carries_ranges WriteUncorrectable = false
carries_ranges Compare = false
carries_ranges WriteZeroes = false
carries_ranges (Dataset deallocate) = true
carries_ranges (Other opcode) = false
