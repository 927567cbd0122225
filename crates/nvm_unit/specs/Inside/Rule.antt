-- The rule of the unit's table: it shows a state to which events lead from a new unit. What the events keep
-- is put beside that, so that each step has it at hand.
use Rattle.std.specs.Prelude.{◌≡◌, List, [], ◌∷◌, Option, Some, None}
use mathlib.Core.Option as there
use Rattle.atomic_table.specs.Table.{State}
use Rattle.nvm_store.specs.HistoryEntry.{HistoryEntry}
use Rattle.nvm_unit.specs.declared.bounds.Bounds.{Bounds}
use Rattle.nvm_unit.specs.declared.views.Group.{Group}
use Rattle.nvm_unit.specs.Inside.Book.{Recorded, recorded}
use Rattle.nvm_unit.specs.Machine.{UnitState, newcomers}
use Rattle.nvm_unit.specs.Events.{idle, IsReached}
use Rattle.nvm_unit.specs.Knowledge.{IsKnown}

-- the table's one slot: out, or home with a book of the history
abbrev pub slots_of : Bounds → Option (List HistoryEntry) → List (there.Option (Option Recorded))
slots_of b None = there.none ∷ []
slots_of b (Some history) = there.some (Some (recorded b history)) ∷ []

-- the table that shows the state
abbrev pub table_of : Bounds → UnitState → State (Option Recorded) Group
table_of b s = record { words = s.word ∷ []; homes = slots_of b s.slot; views = s.groups }

abbrev pub IsRuled : Bounds → State (Option Recorded) Group → Type 0
IsRuled b table = (s : UnitState) × (table ≡ table_of b s) × IsKnown b s × IsReached b s

-- what the first seat carries
abbrev pub all_newcomers : Bounds → Group
all_newcomers b = idle (newcomers b)
