-- What a stored block stands for.
use Rattle.std.specs.Prelude.{replicate}
use Rattle.nvm_record.specs.declared.block.Block.{Block}
use Rattle.nvm_record.specs.declared.block.Block.TheVariants.{Bytes, Uncorrectable}
use Rattle.nvm_store.specs.declared.blocks.content.Content.{Content}
use Rattle.nvm_store.specs.declared.blocks.content.Content.TheVariants.{Zero, Data, Marked}

-- the block
abbrev pub block_of : Content → Block
block_of (Zero size) = Bytes (replicate size 0)
block_of (Data payload) = Bytes payload
block_of Marked = Uncorrectable
