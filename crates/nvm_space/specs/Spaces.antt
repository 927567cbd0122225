-- What contracts see of a space: a namespace as regions of whole units, each of which is a unit of nvm_unit (own).
use Rattle.std.specs.Prelude.{◌≡◌, ℕ, ◌<◌, ◌≤◌, ◌^◌, Bool, List, Option, length, unwrap_or}
use Rattle.nvm_record.specs.Lists.{IsAt}
use Rattle.nvm_geometry.specs.Boundaries.{units_of}
use Rattle.nvm_geometry.specs.Large.{regions_of}
use Rattle.nvm_geometry.specs.Namespace.{Namespace}
use Rattle.nvm_plan.specs.UnitPlace.{IsUnitPlace}
use Rattle.nvm_unit.specs.Passes.{UnitName}
use Rattle.nvm_space.specs.declared.space_fault.SpaceFault.{SpaceFault}
use Rattle.nvm_space.specs.declared.space_fault.SpaceFault.TheVariants.{Ports, NoMemory}

-- the namespace, how many ports there are, how many entries each region's history may have, whether jobs list their parts,
-- whether passes keep versions, and which units of nvm_unit its regions are
pub record SpaceName : Type 0 where
  pub namespace : Namespace
  pub ports : ℕ
  pub limit : ℕ
  pub lists : Bool
  pub versions : Bool
  pub units : List UnitName

-- the most entries of a history: the limit of a record, or 2^62 where there is none
abbrev pub most_entries : Option ℕ → ℕ
most_entries limit = unwrap_or limit (2 ^ 62)

-- The unit is the region of this number, and lies in its place in the namespace, with a pass for each port, the limit, and versions or not.
pub record IsUnitOf (s : SpaceName) (k : ℕ) (unit : UnitName) : Type 0 where
  pub number : unit.number ≡ k
  pub place : IsUnitPlace (regions_of s.namespace) k unit.bounds.place
  pub passes : unit.bounds.passes ≡ s.ports
  pub limit : unit.bounds.limit ≡ s.limit
  pub versions : unit.versions ≡ s.versions

-- They are all regions of the namespace, each at the place of its number.
pub record IsLaidOut (s : SpaceName) : Type 0 where
  pub count : length s.units ≡ units_of (regions_of s.namespace)
  pub each : (k : ℕ) (unit : UnitName) → IsAt s.units k unit → IsUnitOf s k unit

-- A space has 1 to 64 ports.
abbrev pub IsPortCount : ℕ → Type 0
IsPortCount count = (0 < count) × (count ≤ 64)

-- why there is no space with `count` ports
abbrev pub IsSpaceFault : ℕ → SpaceFault → Type 0
IsSpaceFault count Ports = ¬ IsPortCount count
IsSpaceFault count NoMemory = IsPortCount count
