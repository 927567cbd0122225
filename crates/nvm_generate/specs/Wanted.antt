-- Which jobs a load may have: those of a kind whose weight isn't 0, and Reads.
use Rattle.std.specs.Prelude.{◌<◌, true, false}
use Rattle.nvm_record.specs.declared.op.Op.{Op}
use Rattle.nvm_record.specs.declared.op.Op.TheVariants as ops
use Rattle.nvm_plan.specs.declared.job.Body.{Body}
use Rattle.nvm_plan.specs.declared.job.Body.TheVariants as bodies
use Rattle.nvm_generate.specs.declared.load.Mix.{Mix}

-- A command by itself of this operation is wanted. No other operation is.
abbrev pub IsWantedOp : Mix → Op → Type 0
IsWantedOp mix ops.Write = 0 < mix.write
IsWantedOp mix ops.Read = Unit {0}
IsWantedOp mix ops.WriteUncorrectable = 0 < mix.uncorrectable
IsWantedOp mix ops.Compare = 0 < mix.compare
IsWantedOp mix ops.WriteZeroes = 0 < mix.zeroes
IsWantedOp mix (ops.Dataset true) = 0 < mix.deallocate
IsWantedOp mix (ops.Dataset false) = ⊥
IsWantedOp mix (ops.Other opcode) = ⊥

abbrev pub IsWanted : Mix → Body → Type 0
IsWanted mix (bodies.Single c) = IsWantedOp mix c.op
IsWanted mix (bodies.Pair c d) = 0 < mix.pair
