-- What holds of the blocks of a unit.
use Rattle.std.specs.Prelude.{ℕ, ◌+◌, ◌-◌, ◌^◌, ◌<◌, ◌≤◌, List, length, take, drop}
use Rattle.nvm_record.specs.declared.block.Block.{Block}
use Rattle.nvm_record.specs.Lists.{IsAt}
use Rattle.nvm_record.specs.Medium.{IsOfSize}
use Rattle.nvm_store.specs.Contents.{Contents}

-- Each is marked, or of this size in bytes.
abbrev pub AreOfSize : ℕ → List Block → Type 0
AreOfSize size blocks = (i : ℕ) (block : Block) → IsAt blocks i block → IsOfSize size block

pub record AreSound (first size : ℕ) (blocks : List Block) : Type 0 where
  pub some : 0 < length blocks
  pub low : first + length blocks ≤ 2 ^ 40
  pub few : length blocks < 2 ^ 32
  pub sized : AreOfSize size blocks

-- the unit's blocks of the n LBAs from `first`
abbrev pub blocks_at : Contents → ℕ → ℕ → List Block
blocks_at unit first n = take n (drop (first - unit.first) unit.blocks)
