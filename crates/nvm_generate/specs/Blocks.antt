-- How many blocks a command of a load may have.
use Rattle.std.specs.Prelude.{ℕ, ◌+◌, ◌≤◌}
use Rattle.std.specs.List.{All}
use Rattle.nvm_record.specs.Ranges.{ranges_of}
use Rattle.nvm_record.specs.declared.command.Command.{Command}
use Rattle.nvm_record.specs.declared.op.Op.{Op}
use Rattle.nvm_record.specs.declared.op.Op.TheVariants.{Dataset}
use Rattle.nvm_geometry.specs.Namespace.{Namespace}

-- a stamp has one byte for a block's place in its command
abbrev pub most_blocks : ℕ
most_blocks = 256

-- A Write of this number of blocks in one unit is atomic by the standard, and they have different stamps.
abbrev pub AreFew : Namespace → ℕ → Type 0
AreFew ns blocks = (blocks ≤ ns.nawun + 1) × (blocks ≤ most_blocks)

-- The command has few blocks, or each of its ranges does, if it is a Dataset Management.
abbrev pub HasFewBlocks : Namespace → Op → Command → Type 0
HasFewBlocks ns (Dataset deallocate) c = All (λ r. AreFew ns r.blocks) (ranges_of c.payload)
HasFewBlocks ns op c = AreFew ns (c.nlb + 1)
