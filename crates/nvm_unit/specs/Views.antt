-- What a pass has seen and done, and how a step changes it. In all of these n is the number of entries
-- that the step finds.
use Rattle.std.specs.Prelude.{◌≡◌, ℕ, suc, ◌≤◌, ◌==◌, if◌then◌else◌, Bool, List, [], ◌∷◌, ◌++◌}
use Rattle.nvm_store.specs.HistoryEntry.{HistoryEntry}
use Rattle.nvm_unit.specs.declared.bounds.Bounds.{Bounds}
use Rattle.nvm_unit.specs.declared.views.PassView.{PassView}

-- `seen` is what the history begins with.
abbrev pub Begins : List HistoryEntry → List HistoryEntry → Type 0
Begins seen history = (rest : List HistoryEntry) × (history ≡ seen ++ rest)

-- the entries that bear the pass's number, each with its place, where the first place is `from`
abbrev pub entries_by_from : ℕ → ℕ → List HistoryEntry → List (ℕ × HistoryEntry)
entries_by_from from pass [] = []
entries_by_from from pass (entry ∷ entries) =
    if entry.pass == pass then (from, entry) ∷ entries_by_from (suc from) pass entries
    else entries_by_from (suc from) pass entries

-- the entries of a history that bear the pass's number, each with its place
abbrev pub entries_by : ℕ → List HistoryEntry → List (ℕ × HistoryEntry)
entries_by pass history = entries_by_from 0 pass history

-- The numbers never fall, the first isn't below `low`, and none is above `high`.
abbrev pub RiseWithin : ℕ → List ℕ → ℕ → Type 0
RiseWithin low [] high = low ≤ high
RiseWithin low (n ∷ ns) high = (low ≤ n) × RiseWithin n ns high

-- a pass that has seen and done nothing
abbrev pub newcomer : Bounds → ℕ → PassView
newcomer b number = record { number = number; bounds = b; seen = []; mine = []; marks = []; floor = 0 }

-- the marks after a step, which adds one where it decides
abbrev pub marks_after : Bool → ℕ → List ℕ → List ℕ
marks_after decides n marks = if decides then marks ++ n ∷ [] else marks

-- after a step that shows nothing
abbrev pub looked : Bool → ℕ → PassView → PassView
looked decides n p = record p { marks = marks_after decides n p.marks; floor = n }

-- after a step that shows the history
abbrev pub shown : Bool → ℕ → List HistoryEntry → PassView → PassView
shown decides n history p = record p { seen = history; marks = marks_after decides n p.marks; floor = n }

-- after the step that adds the entry at the end of the history
abbrev pub added : ℕ → List HistoryEntry → HistoryEntry → PassView → PassView
added n history entry p =
    record p {
      seen = history ++ entry ∷ [];
      mine = p.mine ++ (n, entry) ∷ [];
      marks = p.marks ++ n ∷ [];
      floor = n;
    }
