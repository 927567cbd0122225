-- A table with a place for each level of each unit's history.
use Rattle.std.specs.Prelude.{◌≡◌, ℕ, ◌+◌, ◌*◌, ◌≤◌, List, length, map, replicate}
use Rattle.nvm_record.specs.Lists.{IsAt}
use Rattle.nvm_store.specs.HistoryEntry.{HistoryEntry}
use Rattle.nvm_trace.specs.declared.step.Step.{Step}
use Rattle.nvm_trace.specs.Order.{level_of}

-- a row of zeroes for each level of the history
abbrev pub empty_row : List HistoryEntry → List ℕ
empty_row history = replicate (2 * length history + 1) 0

-- The table has a row of zeroes for each of these histories.
abbrev pub AreEmptyRows : List (List HistoryEntry) → List (List ℕ) → Type 0
AreEmptyRows units rows = rows ≡ map empty_row units

-- The step has a place in the history of its unit.
pub record HasPlace (units : List (List HistoryEntry)) (s : Step) : Type 0 where
  pub history : List HistoryEntry
  pub there : IsAt units s.unit history
  pub within : level_of s ≤ 2 * length history
