-- The word that names an operation: the name that the engine prints.
use Rattle.std.specs.Prelude.{ℕ, false, if◌then◌else◌, List, take, drop, codes, Option, Some, None, Result, Ok, Err}
use Rattle.std.specs.Str.{bytes_eq}
use Rattle.nvm_record.specs.Op.{op_of}
use Rattle.nvm_record.specs.declared.op.Op.{Op}
use Rattle.nvm_record.specs.declared.op.Op.TheVariants as ops
use Rattle.nvm_text.specs.Lines.{name_of}
use Rattle.nvm_list.specs.Numbers.{hex_byte}
use Rattle.nvm_list.specs.declared.expected.Expected.{Expected}
use Rattle.nvm_list.specs.declared.expected.Expected.TheVariants.{Name}

-- an operation that has no name but its opcode
abbrev pub unnamed : Op → Result Op Expected
unnamed ops.Write = Err Name
unnamed ops.Read = Err Name
unnamed ops.WriteUncorrectable = Err Name
unnamed ops.Compare = Err Name
unnamed ops.WriteZeroes = Err Name
unnamed (ops.Dataset deallocate) = Err Name
unnamed (ops.Other opcode) = Ok (ops.Other opcode)

abbrev pub of_opcode : Option ℕ → Result Op Expected
of_opcode None = Err Name
of_opcode (Some opcode) = unnamed (op_of opcode false)

-- `op-` and an opcode that has no other name
abbrev pub other_operation : List ℕ → Result Op Expected
other_operation word = if bytes_eq (take 3 word) (codes "op-") then of_opcode (hex_byte (drop 3 word)) else Err Name

-- the operation, where nothing is deallocated: an option says that something is
abbrev pub operation : List ℕ → Result Op Expected
operation word =
    if bytes_eq word (name_of ops.Write) then Ok ops.Write else
    if bytes_eq word (name_of ops.Read) then Ok ops.Read else
    if bytes_eq word (name_of ops.WriteUncorrectable) then Ok ops.WriteUncorrectable else
    if bytes_eq word (name_of ops.Compare) then Ok ops.Compare else
    if bytes_eq word (name_of ops.WriteZeroes) then Ok ops.WriteZeroes else
    if bytes_eq word (name_of (ops.Dataset false)) then Ok (ops.Dataset false) else other_operation word
