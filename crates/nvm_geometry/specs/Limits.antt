-- The sizes up to which the standard promises atomicity: NVM Command Set Specification, "Atomic
-- Operation", the fields NAWUN and NACWU of Identify Namespace. Both are zeroes-based; 0 stands for the
-- controller's AWUN and ACWU, which are 0 here, and so for one block.
use Rattle.std.specs.Prelude.{ℕ, ◌+◌, ◌-◌, ◌≤◌}
use Rattle.nvm_geometry.specs.Namespace.{Namespace}
use Rattle.nvm_geometry.specs.Boundaries.{SharesUnit}

-- the first and the last LBA of the range, which has a block, share a unit
abbrev pub LiesInUnit : Namespace → ℕ → ℕ → Type 0
LiesInUnit ns slba blocks = SharesUnit ns slba (slba + blocks - 1)

-- A write of the range is within the advertised limits.
pub record IsWithinWriteLimit (ns : Namespace) (slba blocks : ℕ) : Type 0 where
  pub one_unit : LiesInUnit ns slba blocks
  pub few : blocks ≤ ns.nawun + 1

-- A fused Compare and Write of the range is within the advertised limits.
pub record IsWithinPairLimit (ns : Namespace) (slba blocks : ℕ) : Type 0 where
  pub one_unit : LiesInUnit ns slba blocks
  pub few : blocks ≤ ns.nacwu + 1
