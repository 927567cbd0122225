-- The history of a unit: its changes, oldest first (own).
use Rattle.std.specs.Prelude.{ℕ, List, [], ◌∷◌, take}
use Rattle.nvm_record.specs.Deeds.{IsAct}
use Rattle.nvm_record.specs.Lists.{IsAt}
use Rattle.nvm_record.specs.Medium.{Medium, zero_medium}
use Rattle.nvm_record.specs.Status.{IsSuccess}
use Rattle.nvm_record.specs.Step.{medium_after, statuses_of}
use Rattle.nvm_store.specs.declared.place.Place.{Place}
use Rattle.nvm_store.specs.HistoryEntry.{HistoryEntry}
use Rattle.nvm_store.specs.Place.{IsCovered}

-- the medium after each entry's operation, in order, where `m` was before
abbrev pub replay_from : ℕ → Medium → List HistoryEntry → Medium
replay_from size m [] = m
replay_from size m (entry ∷ entries) = replay_from size (medium_after size entry.operation m) entries

-- the medium after each entry's operation, in order, from the zero medium
abbrev pub replay_of : ℕ → List HistoryEntry → Medium
replay_of size history = replay_from size (zero_medium size) history

-- The entry can come after these: it is an act and no look, lies in the place, and succeeds on their replay.
pub record CanFollow (place : Place) (before : List HistoryEntry) (entry : HistoryEntry) : Type 0 where
  pub act : IsAct entry.operation.deed
  pub covered : IsCovered place entry.operation
  pub succeeds : IsSuccess (statuses_of entry.operation (replay_of place.size before))

-- Each entry can come after those before it, in the unit that lies there.
abbrev pub IsLawfulHistory : Place → List HistoryEntry → Type 0
IsLawfulHistory place history =
    (i : ℕ) (entry : HistoryEntry) → IsAt history i entry → CanFollow place (take i history) entry
