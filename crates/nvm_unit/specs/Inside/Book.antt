-- What the unit's slot holds, as plain data. The blocks are those to which the history leads.
use Rattle.std.specs.Prelude.{List}
use Rattle.nvm_store.specs.declared.place.Place.{Place}
use Rattle.nvm_store.specs.HistoryEntry.{HistoryEntry}
use Rattle.nvm_unit.specs.declared.bounds.Bounds.{Bounds}

pub record Recorded : Type 0 where
  pub place : Place
  pub history : List HistoryEntry

-- what the slot of a unit holds that has this history
abbrev pub recorded : Bounds → List HistoryEntry → Recorded
recorded b history = record { place = b.place; history = history }
