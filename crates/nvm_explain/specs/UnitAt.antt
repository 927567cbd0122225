-- A unit's blocks at a point of its history, as the code finds them, and what its entries must be for that.
use Rattle.std.specs.Prelude.{◌≡◌, ℕ, List, true}
use Rattle.std.specs.List.{All}
use Rattle.nvm_record.specs.Medium.{zero_medium}
use Rattle.nvm_geometry.specs.Namespace.{Namespace}
use Rattle.nvm_plan.specs.UnitPlace.{IsUnitPlace}
use Rattle.nvm_store.specs.declared.place.Place.{Place}
use Rattle.nvm_store.specs.Contents.{Contents, Holds, LiesAt, place_of}
use Rattle.nvm_store.specs.History.{replay_of}
use Rattle.nvm_store.specs.HistoryEntry.{HistoryEntry}
use Rattle.nvm_store.specs.Place.{IsCovered}
use Rattle.nvm_store.specs.Point.{point}
use Rattle.nvm_explain.specs.Reached.{all_succeed, is_reached}

-- The place covers what each of these entries does.
pub record AreCovered (place : Place) (entries : List HistoryEntry) : Type 0 where
  pub each : All (λ entry. IsCovered place entry.operation) entries

-- The unit of this number covers what each of these entries does.
pub record AreCoveredIn (ns : Namespace) (unit : ℕ) (entries : List HistoryEntry) : Type 0 where
  pub covered : (place : Place) → IsUnitPlace ns unit place → AreCovered place entries

-- Each of these entries succeeds after those before it, and the blocks in this place are those that they leave.
pub record IsAfter (place : Place) (entries : List HistoryEntry) (blocks : Contents) : Type 0 where
  pub succeed : all_succeed place.size (zero_medium place.size) entries ≡ true
  pub lies : LiesAt place blocks
  pub held : Holds blocks (replay_of place.size entries)

-- The point is reached, and the unit's blocks there are these.
pub record IsAtPoint (ns : Namespace) (unit : ℕ) (history : List HistoryEntry) (at : ℕ) (blocks : Contents) : Type 0 where
  pub reached : is_reached ns.block_size history at ≡ true
  pub lies : IsUnitPlace ns unit (place_of blocks)
  pub held : Holds blocks (point ns.block_size history at)
