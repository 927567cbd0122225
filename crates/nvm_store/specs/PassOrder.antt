-- What one pass did on a unit, in order: its calls alone, and its entries and calls together (own).
use Rattle.std.specs.Prelude.{ℕ, ◌+◌, ◌≤◌, nat_eq, List, [], ◌∷◌, length, filter}
use Rattle.nvm_record.specs.Lists.{IsAt}
use Rattle.nvm_store.specs.Call.{Call}
use Rattle.nvm_store.specs.HistoryEntry.{HistoryEntry}
use Rattle.nvm_store.specs.PlacedRun.{RunStep, changes, answers}

-- The points of calls, from `low` on and none past `high`, never go back.
abbrev pub NeverGoBack : ℕ → ℕ → List Call → Type 0
NeverGoBack low high [] = Unit {0}
NeverGoBack low high (call ∷ calls) =
    (low ≤ call.point) × (call.point ≤ high) × NeverGoBack call.point high calls

-- the entries of one pass, in order
abbrev pub entries_of_pass : ℕ → List HistoryEntry → List HistoryEntry
entries_of_pass pass entries = filter (λ entry. nat_eq entry.pass pass) entries

-- whose step it is
abbrev pub pass_of_step : RunStep → ℕ
pass_of_step (changes entry) = entry.pass
pass_of_step (answers call) = call.pass

-- the steps of one pass, in order
abbrev pub steps_by : ℕ → List RunStep → List RunStep
steps_by pass steps = filter (λ step. nat_eq (pass_of_step step) pass) steps

-- Steps that one pass made on a unit with this history, one after the other, never go back: an entry is at its place,
-- a call at its point, none before `low`, and what follows an entry is after it.
abbrev pub StepsNeverGoBack : List HistoryEntry → ℕ → List RunStep → Type 0
StepsNeverGoBack history low [] = Unit {0}
StepsNeverGoBack history low (changes entry ∷ steps) =
    (place : ℕ) × (low ≤ place) × IsAt history place entry × StepsNeverGoBack history (place + 1) steps
StepsNeverGoBack history low (answers call ∷ steps) =
    (low ≤ call.point) × (call.point ≤ length history) × StepsNeverGoBack history call.point steps
