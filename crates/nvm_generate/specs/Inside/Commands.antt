-- Commands of loads, field by field.
use Rattle.std.specs.Prelude.{◌≡◌, ℕ, ◌+◌, List, [], ◌∷◌, true}
use Rattle.nvm_record.specs.Ranges.{data_of_ranges, ranges_of}
use Rattle.nvm_record.specs.declared.command.Command.{Command}
use Rattle.nvm_record.specs.declared.lba_range.LbaRange.{LbaRange}
use Rattle.nvm_record.specs.declared.op.Op.{Op}
use Rattle.nvm_record.specs.declared.op.Op.TheVariants.{Dataset}
use Rattle.nvm_record.specs.declared.op.Fuse.{Fuse}
use Rattle.nvm_record.specs.declared.op.Fuse.TheVariants.{Normal}

-- a command on blocks
abbrev pub on_blocks : ℕ → Fuse → Op → ℕ → ℕ → List ℕ → Command
on_blocks cid fuse op first nlb payload =
    record { cid = cid; nsid = 1; fuse = fuse; op = op; slba = first; nlb = nlb; payload = payload }

abbrev pub range_of : ℕ → ℕ → LbaRange
range_of first nlb = record { first = first; blocks = nlb + 1 }

-- It deallocates these blocks.
pub record Deallocates (cid first nlb : ℕ) (c : Command) : Type 0 where
  pub command : c ≡ on_blocks cid Normal (Dataset true) 0 0 c.payload
  pub payload : c.payload ≡ data_of_ranges (range_of first nlb ∷ [])
  pub ranges : ranges_of c.payload ≡ range_of first nlb ∷ []
