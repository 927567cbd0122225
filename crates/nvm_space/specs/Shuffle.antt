-- A shuffle: the entries of all units in one order that keeps the order of each unit (own).
use Rattle.std.specs.Prelude.{◌≡◌, ℕ, ◌<◌, nat_eq, List, All, length, filter, take}
use Rattle.nvm_geometry.specs.Boundaries.{unit_number, units_of}
use Rattle.nvm_geometry.specs.Namespace.{Namespace}
use Rattle.nvm_plan.specs.UnitPlace.{IsUnitPlace}
use Rattle.nvm_record.specs.Lists.{IsAt}
use Rattle.nvm_store.specs.declared.place.Place.{Place}
use Rattle.nvm_store.specs.Call.{Call, IsCallOn}
use Rattle.nvm_store.specs.History.{IsLawfulHistory}
use Rattle.nvm_store.specs.HistoryEntry.{HistoryEntry}

-- the number of the unit in which the entry's first LBA lies
abbrev pub unit_of_entry : Namespace → HistoryEntry → ℕ
unit_of_entry ns entry = unit_number ns entry.operation.first

-- the entries of one unit, in order
abbrev pub entries_of_unit : Namespace → ℕ → List HistoryEntry → List HistoryEntry
entries_of_unit ns unit entries = filter (λ entry. nat_eq (unit_of_entry ns entry) unit) entries

-- how many of the entries are of the unit
abbrev pub count_of_unit : Namespace → ℕ → List HistoryEntry → ℕ
count_of_unit ns unit entries = length (entries_of_unit ns unit entries)

-- There is one history for each unit, at the place of its number, and it is lawful where the unit lies.
pub record AreLawfulHistories (ns : Namespace) (histories : List (List HistoryEntry)) : Type 0 where
  pub count : length histories ≡ units_of ns
  pub each : (unit : ℕ) (history : List HistoryEntry) → IsAt histories unit history
      → (place : Place) × IsUnitPlace ns unit place × IsLawfulHistory place history

-- The list has exactly the entries of these histories, those of each unit in the order of its history.
pub record IsShuffle (ns : Namespace) (histories : List (List HistoryEntry)) (all : List HistoryEntry) : Type 0 where
  pub each : (unit : ℕ) (history : List HistoryEntry) → IsAt histories unit history
      → entries_of_unit ns unit all ≡ history
  pub known : All (λ entry. unit_of_entry ns entry < length histories) all

-- After these entries the call is at its point: it is a call on one unit's history, and the unit's own among the
-- entries are exactly the point's.
pub record StandsAtItsPoint (ns : Namespace) (histories : List (List HistoryEntry)) (before : List HistoryEntry)
    (call : Call) : Type 0 where
  pub unit : ℕ
  pub history : List HistoryEntry
  pub place : Place
  pub its : IsAt histories unit history
  pub lies : IsUnitPlace ns unit place
  pub on : IsCallOn place history call
  pub holds : entries_of_unit ns unit before ≡ take call.point history
