-- Which commands are served, and which two of them are one fused operation: NVM Command Set
-- Specification, "NVM Command Set opcodes"; Base Specification, "Fused Operation". That both must be
-- served to be one is this project's own.
use Rattle.std.specs.Prelude.{◌≡◌, Bool, true, false, IsTrue}
use Rattle.nvm_record.specs.declared.op.Op.{Op}
use Rattle.nvm_record.specs.declared.op.Op.TheVariants.{Write, Read, WriteUncorrectable, Compare, WriteZeroes, Dataset, Other}
use Rattle.nvm_record.specs.declared.op.Fuse.TheVariants.{First, Second}
use Rattle.nvm_record.specs.declared.command.Command.{Command}

-- the opcodes of the profile
abbrev pub is_in_profile : Op → Bool
is_in_profile Write = true
is_in_profile Read = true
is_in_profile WriteUncorrectable = true
is_in_profile Compare = true
is_in_profile WriteZeroes = true
is_in_profile (Dataset deallocate) = true
is_in_profile (Other opcode) = false

-- The two commands are a fused pair: a first and a second, both of the profile.
pub record IsFusedPair (c d : Command) : Type 0 where
  pub first : c.fuse ≡ First
  pub second : d.fuse ≡ Second
  pub first_op : IsTrue (is_in_profile c.op)
  pub second_op : IsTrue (is_in_profile d.op)
