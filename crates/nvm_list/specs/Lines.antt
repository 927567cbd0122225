-- A line: a name, what the command is on, which is blocks and their data or ranges, and options.
use Rattle.std.specs.Prelude.{ℕ, zero, suc, ◌+◌, ◌*◌, ◌%◌, Bool, if◌then◌else◌, List, [], Option, Some, None, unwrap_or, Result, Ok, Err}
use Rattle.nvm_record.specs.Op.{carries_blocks, carries_ranges}
use Rattle.nvm_record.specs.Ranges.{data_of_ranges}
use Rattle.nvm_record.specs.declared.op.Op.{Op}
use Rattle.nvm_record.specs.declared.op.Op.TheVariants.{Dataset}
use Rattle.nvm_record.specs.declared.op.Fuse.TheVariants.{Normal}
use Rattle.nvm_record.specs.declared.command.Command.{Command}
use Rattle.nvm_list.specs.Words.{first, others}
use Rattle.nvm_list.specs.Numbers.{number}
use Rattle.nvm_list.specs.Expecting.{◌>>=◌, expect}
use Rattle.nvm_list.specs.Names.{operation}
use Rattle.nvm_list.specs.Data.{payload}
use Rattle.nvm_list.specs.Ranges.{ranges}
use Rattle.nvm_list.specs.Options.{Options, options}
use Rattle.nvm_list.specs.declared.expected.Expected.{Expected}
use Rattle.nvm_list.specs.declared.expected.Expected.TheVariants as expecting
use Rattle.nvm_list.specs.declared.operands.Operands.{Operands}

abbrev pub lba : List ℕ → Result ℕ Expected
lba word = expect expecting.Lba (number 18446744073709551615 word)

-- blocks are written as what the range holds, and NLB is one less
abbrev pub nlb_of : Option ℕ → Result ℕ Expected
nlb_of None = Err expecting.Blocks
nlb_of (Some zero) = Err expecting.Blocks
nlb_of (Some (suc nlb)) = Ok nlb

abbrev pub nlb : List ℕ → Result ℕ Expected
nlb word = nlb_of (number 65536 word)

-- the data of `n + 1` blocks, and the words after it
abbrev pub carried : ℕ → Op → ℕ → List (List ℕ) → Result (List ℕ × List (List ℕ)) Expected
carried size op n words =
    if carries_blocks op
    then (payload ((n + 1) * size) (first words) >>= λ bytes. Ok (bytes, others words))
    else Ok ([], words)

-- an LBA, a number of blocks and data where the operation carries some, and the words after them
abbrev pub on_blocks : ℕ → Op → List (List ℕ) → Result (Operands × List (List ℕ)) Expected
on_blocks size op words = do
  slba ← lba (first words)
  n ← nlb (first (others words))
  bytes ← carried size op n (others (others words))
  Ok (record { slba = slba; nlb = n; payload = bytes.0 }, bytes.1)

-- ranges, and the words after them
abbrev pub on_ranges : List (List ℕ) → Result (Operands × List (List ℕ)) Expected
on_ranges words = do
  rs ← ranges (first words)
  Ok (record { slba = 0; nlb = 0; payload = data_of_ranges rs }, others words)

-- what a command of this operation is on, and the words after that
abbrev pub operands : ℕ → Op → List (List ℕ) → Result (Operands × List (List ℕ)) Expected
operands size op words = if carries_ranges op then on_ranges words else on_blocks size op words

-- the operation with its Deallocate bit, where it has one
abbrev pub with_bit : Bool → Op → Op
with_bit deallocate op = if carries_ranges op then Dataset deallocate else op

-- the command at place `place` of its list, where the first is at place 1
abbrev pub command_of : ℕ → Op → Operands → Options → Command
command_of place op on o = record {
  cid = unwrap_or o.cid (place % 65536);
  nsid = unwrap_or o.nsid 1;
  fuse = unwrap_or o.fuse Normal;
  op = with_bit o.deallocate op;
  slba = on.slba;
  nlb = on.nlb;
  payload = on.payload;
}

-- the command that the words of a line say
unfoldable pub command : ℕ → ℕ → List (List ℕ) → Result Command Expected
command size place words = do
  op ← operation (first words)
  on ← operands size op (others words)
  o ← options (carries_ranges op) on.1
  Ok (command_of place op on.0 o)
