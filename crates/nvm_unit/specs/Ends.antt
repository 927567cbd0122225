-- How a unit begins and ends.
use Rattle.std.specs.Prelude.{◌≡◌, ℕ, ◌<◌, ◌≤◌, Bool, List, map, length}
use Rattle.atomic_table.specs.Seated.{TableId}
use Rattle.nvm_store.specs.HistoryEntry.{HistoryEntry}
use Rattle.nvm_unit.specs.declared.bounds.Bounds.{Bounds}
use Rattle.nvm_unit.specs.declared.unit_fault.UnitFault.{UnitFault}
use Rattle.nvm_unit.specs.declared.unit_fault.UnitFault.TheVariants.{Passes, NoMemory}
use Rattle.nvm_unit.specs.declared.views.PassView.{PassView}
use Rattle.nvm_unit.specs.Machine.{UnitState, newcomers}
use Rattle.nvm_record.specs.Lists.{IsAt}
use Rattle.nvm_unit.specs.Events.{idle, IsReached}
use Rattle.nvm_unit.specs.Views.{RiseWithin}
use Rattle.nvm_unit.specs.Passes.{UnitName, PassState, IsPassOf, IsHistoryOf, Finds}

-- A unit has 1 to 64 passes.
abbrev pub IsPassCount : ℕ → Type 0
IsPassCount count = (0 < count) × (count ≤ 64)

-- why there is no unit with `count` passes
abbrev pub IsUnitFault : ℕ → UnitFault → Type 0
IsUnitFault count Passes = ¬ IsPassCount count
IsUnitFault count NoMemory = IsPassCount count

-- a pass of this table, and whether it keeps its version
abbrev pub pass_at : TableId → Bool → PassView → PassState
pass_at table keeps view = record { table = table; view = view; keeps = keeps }

-- the passes of a new unit: each keeps the opening version, unless the unit is opened without versions
abbrev pub new_passes : UnitName → List PassState
new_passes unit = map (pass_at unit.table unit.versions) (newcomers unit.bounds)

-- These are the unit's passes, all of them, each at the place of its number.
pub record AreAllPassesOf (unit : UnitName) (passes : List PassState) : Type 0 where
  pub count : length passes ≡ unit.bounds.passes
  pub each : (i : ℕ) (pass : PassState) → IsAt passes i pass → IsPassOf unit pass × (pass.view.number ≡ i)

-- The unit's history at the end: lawful and within the limit, each entry by a pass, with exactly the passes' own
-- entries under their numbers. It begins with what each pass had seen, and is no shorter than anything that
-- one had found: a pass's marks never fall, none is above its floor, and the floor isn't above the number of
-- entries.
pub record IsWholeHistory (b : Bounds) (views : List PassView) (history : List HistoryEntry) : Type 0 where
  pub lawful : IsHistoryOf b history
  pub each : (i : ℕ) (view : PassView) → IsAt views i view → Finds (length history) view history
  pub marks : (i : ℕ) (view : PassView) → IsAt views i view → RiseWithin 0 view.marks view.floor

abbrev pub views_of : List PassState → List PassView
views_of passes = map (λ p. p.view) passes

-- Events led from a new unit to this history, and to these views of passes that are all at one seat.
abbrev pub HasCome : Bounds → List PassView → List HistoryEntry → Type 0
HasCome b views history =
    (s : UnitState) × (j : ℕ) × IsReached b s × (s.history ≡ history) × IsAt s.groups j (idle views)
