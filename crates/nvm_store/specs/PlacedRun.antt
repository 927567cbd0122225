-- The placed run of a unit: its entries in order, and each call between them at its point. And when a list of such steps
-- is a run of one medium: each has its answer where it is (own).
use Rattle.std.specs.Prelude.{◌≡◌, ℕ, ◌+◌, nat_eq, List, [], ◌∷◌, ◌++◌, map, filter}
use Rattle.nvm_record.specs.Medium.{Medium}
use Rattle.nvm_record.specs.Status.{IsSuccess}
use Rattle.nvm_record.specs.Step.{Operation, statuses_of, data_of, medium_after}
use Rattle.nvm_store.specs.Call.{Call}
use Rattle.nvm_store.specs.HistoryEntry.{HistoryEntry}

-- one step of a run
pub data RunStep : Type 0 where
  changes : HistoryEntry → RunStep
  answers : Call → RunStep

-- what the step does
abbrev pub operation_of_step : RunStep → Operation
operation_of_step (changes entry) = entry.operation
operation_of_step (answers call) = call.operation

-- On this medium the entry succeeds, or the call has the answer that it got.
abbrev pub HasItsAnswer : RunStep → Medium → Type 0
HasItsAnswer (changes entry) m = IsSuccess (statuses_of entry.operation m)
HasItsAnswer (answers call) m = (call.told ≡ statuses_of call.operation m) × (call.read ≡ data_of call.operation m)

-- Each step has its answer on the medium that the steps before it leave, where `m` was before: a run of the step, one
-- operation after the other.
abbrev pub IsRunFrom : ℕ → Medium → List RunStep → Type 0
IsRunFrom size m [] = Unit {0}
IsRunFrom size m (step ∷ steps) =
    HasItsAnswer step m × IsRunFrom size (medium_after size (operation_of_step step) m) steps

-- the entries of a run, in order
abbrev pub entries_in : List RunStep → List HistoryEntry
entries_in [] = []
entries_in (changes entry ∷ steps) = entry ∷ entries_in steps
entries_in (answers call ∷ steps) = entries_in steps

-- the calls of a run, in order
abbrev pub calls_in : List RunStep → List Call
calls_in [] = []
calls_in (changes entry ∷ steps) = calls_in steps
calls_in (answers call ∷ steps) = call ∷ calls_in steps

-- Each call of the run has as many entries before it as its point says, where `n` come before the run.
abbrev pub StandAtPoints : ℕ → List RunStep → Type 0
StandAtPoints n [] = Unit {0}
StandAtPoints n (changes entry ∷ steps) = StandAtPoints (n + 1) steps
StandAtPoints n (answers call ∷ steps) = (call.point ≡ n) × StandAtPoints n steps

-- the calls of one pass, in order
abbrev pub calls_by : ℕ → List Call → List Call
calls_by pass calls = filter (λ call. nat_eq call.pass pass) calls

-- The run has exactly these entries, in order, and exactly these calls, those of each pass in order; and each call is at
-- its point: after entry `n - 1` and before entry n.
pub record IsPlacedRun (history : List HistoryEntry) (calls : List Call) (run : List RunStep) : Type 0 where
  pub whole : entries_in run ≡ history
  pub in_order : (pass : ℕ) → calls_by pass (calls_in run) ≡ calls_by pass calls
  pub at_points : StandAtPoints 0 run

-- the calls that rest on point n, in order
abbrev pub calls_at : ℕ → List Call → List Call
calls_at n calls = filter (λ call. nat_eq call.point n) calls

-- the entries, of which the first is at place n, and the calls at the points from n on
abbrev pub placed_from : ℕ → List HistoryEntry → List Call → List RunStep
placed_from n [] calls = map answers (calls_at n calls)
placed_from n (entry ∷ entries) calls =
    map answers (calls_at n calls) ++ changes entry ∷ placed_from (n + 1) entries calls

-- the placed run in which calls at one point keep the order that they are given in
abbrev pub placed_run : List HistoryEntry → List Call → List RunStep
placed_run history calls = placed_from 0 history calls
