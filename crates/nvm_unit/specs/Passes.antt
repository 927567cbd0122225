-- What contracts see of a unit and of its passes.
use Rattle.std.specs.Prelude.{◌≡◌, ℕ, ◌<◌, ◌≤◌, Bool, true, List, length}
use Rattle.atomic_table.specs.Seated.{TableId}
use Rattle.nvm_store.specs.HistoryEntry.{HistoryEntry}
use Rattle.nvm_store.specs.History.{IsLawfulHistory}
use Rattle.nvm_unit.specs.declared.bounds.Bounds.{Bounds}
use Rattle.nvm_unit.specs.declared.views.PassView.{PassView}
use Rattle.nvm_record.specs.Lists.{IsAt}
use Rattle.nvm_unit.specs.Views.{Begins, entries_by, RiseWithin}

-- which unit it is, the number by which a gate knows it, what is settled of it, and whether its passes keep versions
pub record UnitName : Type 0 where
  pub table : TableId
  pub number : ℕ
  pub bounds : Bounds
  pub versions : Bool

-- the unit that a pass is of, what it has seen and done, and whether it keeps the unit's version at the last point
-- that it has seen
pub record PassState : Type 0 where
  pub table : TableId
  pub view : PassView
  pub keeps : Bool

-- The pass is one of this unit. It keeps a version only where the unit was opened with versions.
pub record IsPassOf (unit : UnitName) (pass : PassState) : Type 0 where
  pub table : pass.table ≡ unit.table
  pub bounds : pass.view.bounds ≡ unit.bounds
  pub kept : pass.keeps ≡ true → unit.versions ≡ true

-- Each entry bears the number of one of `count` passes.
abbrev pub BearsNumbers : ℕ → List HistoryEntry → Type 0
BearsNumbers count history = (k : ℕ) (entry : HistoryEntry) → IsAt history k entry → entry.pass < count

-- The history is lawful in the unit and not above its limit, and each entry is by one of its passes.
pub record IsHistoryOf (b : Bounds) (history : List HistoryEntry) : Type 0 where
  pub lawful : IsLawfulHistory b.place history
  pub within : length history ≤ b.limit
  pub bears : BearsNumbers b.passes history

-- What holds of each pass: what it has seen is lawful, and has exactly its own entries under its number; its
-- marks never fall, and none is above what its last step found.
pub record IsProperPass (p : PassView) : Type 0 where
  pub seen : IsHistoryOf p.bounds p.seen
  pub own : entries_by p.number p.seen ≡ p.mine
  pub marks : RiseWithin 0 p.marks p.floor

-- A step finds n entries: no fewer than the pass has found and seen, and no more than there can be.
pub record IsNotAbove (n : ℕ) (p : PassView) : Type 0 where
  pub floor : p.floor ≤ n
  pub seen : length p.seen ≤ n
  pub limit : n ≤ p.bounds.limit

-- A step of the pass finds this history, of n entries: it begins with what the pass had seen, and is no
-- shorter than anything that it had found.
pub record Finds (n : ℕ) (p : PassView) (history : List HistoryEntry) : Type 0 where
  pub count : n ≡ length history
  pub seen : Begins p.seen history
  pub floor : p.floor ≤ n
  pub mine : entries_by p.number history ≡ p.mine
  pub lawful : IsHistoryOf p.bounds history
