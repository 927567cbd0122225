-- What a space that is recorded says of itself.
use Rattle.std.specs.Prelude.{◌≡◌, ◌≤◌, ℕ, Option, Some, None}
use Rattle.nvm_geometry.specs.Boundaries.{units_of}
use Rattle.nvm_geometry.specs.Faults.{most_units}
use Rattle.nvm_geometry.specs.Namespace.{Namespace}
use Rattle.nvm_space.specs.declared.space.Recorded.{Recorded}

-- the limit, if there is one
abbrev pub limit_of : Option Recorded → Option ℕ
limit_of None = None
limit_of (Some r) = Some r.limit

-- It is of this namespace, which has no more units than there can be regions.
abbrev pub AreRecordedOf : Namespace → Option Recorded → Type 0
AreRecordedOf ns None = Unit {0}
AreRecordedOf ns (Some r) = (r.geometry ≡ ns) × (units_of ns ≤ most_units)
