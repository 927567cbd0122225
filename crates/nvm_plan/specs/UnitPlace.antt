-- A unit's place in the namespace (own).
use Rattle.std.specs.Prelude.{◌≡◌, ℕ}
use Rattle.nvm_geometry.specs.Namespace.{Namespace}
use Rattle.nvm_geometry.specs.Place.{IsPlaceOf}
use Rattle.nvm_store.specs.declared.place.Place.{Place}

-- The place is exactly the unit's LBAs, in blocks of the namespace's size.
pub record IsUnitPlace (ns : Namespace) (unit : ℕ) (place : Place) : Type 0 where
  pub lbas : IsPlaceOf ns unit place.first place.blocks
  pub size : place.size ≡ ns.block_size
