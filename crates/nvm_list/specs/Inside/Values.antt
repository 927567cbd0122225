-- What holds of a command by its types alone.
use Rattle.std.specs.Prelude.{ℕ, ◌<◌}
use Rattle.nvm_record.specs.Op.{opcode_of}
use Rattle.nvm_record.specs.Entry.{HasFieldsInRange}
use Rattle.nvm_record.specs.Lists.{IsAt}
use Rattle.nvm_record.specs.declared.command.Command.{Command}

-- Each field of the command fits its place, as its type says.
pub record HasValuesInRange (c : Command) : Type 0 where
  pub fields : HasFieldsInRange c
  pub opcode : opcode_of c.op < 256
  pub bytes : (i byte : ℕ) → IsAt c.payload i byte → byte < 256
