-- Where a unit lies: this project's own words for what lies between two boundaries (NVM Command Set
-- Specification, "Atomic Boundaries").
use Rattle.std.specs.Prelude.{◌≡◌, ℕ, ◌+◌, ◌<◌, ◌≤◌}
use Rattle.nvm_geometry.specs.Namespace.{Namespace}
use Rattle.nvm_geometry.specs.Boundaries.{unit_number}

-- The unit is exactly the `blocks` LBAs from `first`, and has a block.
pub record IsPlaceOf (ns : Namespace) (unit first blocks : ℕ) : Type 0 where
  pub some : 0 < blocks
  pub inside : first + blocks ≤ ns.nsze
  pub lies : (lba : ℕ) → first ≤ lba → lba < first + blocks → unit_number ns lba ≡ unit
  pub whole : (lba : ℕ) → lba < ns.nsze → unit_number ns lba ≡ unit → (first ≤ lba) × (lba < first + blocks)
