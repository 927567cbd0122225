-- The blocks of a tree, whatever its levels.
use Rattle.std.specs.Prelude.{◌≡◌, ℕ, ◌≤◌, List, replicate}
use Rattle.std.specs.Arc.{arc_value}
use Rattle.nvm_record.specs.declared.block.Block.{Block}
use Rattle.nvm_store.specs.declared.blocks.levels.Levels.{Levels}
use Rattle.nvm_store.specs.declared.blocks.levels.Levels.TheVariants.{One, Two, Three, Four, Five}

-- the blocks
abbrev pub blocks_of : Levels → List Block
blocks_of (One node) = arc_value node
blocks_of (Two node) = arc_value node
blocks_of (Three node) = arc_value node
blocks_of (Four node) = arc_value node
blocks_of (Five node) = arc_value node

-- All of them are this block, and there are at least `count`.
pub record AreAll (count : ℕ) (block : Block) (blocks : List Block) : Type 0 where
  pub all : ℕ
  pub enough : count ≤ all
  pub are : blocks ≡ replicate all block
