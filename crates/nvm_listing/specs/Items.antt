-- What a record holds, item by item: each of its jobs, each entry of each unit's history, and each job that each worker did, with its
-- parts, all once and in the order of the record. Jobs, units, places and workers count from 0.
use Rattle.std.specs.Prelude.{ℕ, ◌+◌, List, [], ◌∷◌, ◌++◌}
use Rattle.nvm_plan.specs.declared.job.Job.{Job}
use Rattle.nvm_store.specs.HistoryEntry.{HistoryEntry}
use Rattle.nvm_audit.specs.RecordedJob.{RecordedJob}
use Rattle.nvm_audit.specs.RecordView.{RecordView}
use Rattle.nvm_listing.specs.declared.item.Item.{Item}
use Rattle.nvm_listing.specs.declared.item.Item.TheVariants as variant

-- the job of a number; the entry at a place of a unit; a job as a worker did it
pub data Held : Type 0 where
  job_of : ℕ → Job → Held
  entry_of : ℕ → ℕ → HistoryEntry → Held
  done_by : ℕ → RecordedJob → Held

abbrev pub held_by : Item → Held
held_by (variant.Job number job) = job_of number job.now
held_by (variant.Entry unit place entry) = entry_of unit place entry.now
held_by (variant.Done worker done) = done_by worker done.now

-- the jobs, of which the first has number `number`
abbrev pub job_items : ℕ → List Job → List Held
job_items number [] = []
job_items number (job ∷ jobs) = job_of number job ∷ job_items (number + 1) jobs

-- the entries of a unit, of which the first is at place `place`
abbrev pub entry_items : ℕ → ℕ → List HistoryEntry → List Held
entry_items unit place [] = []
entry_items unit place (entry ∷ entries) = entry_of unit place entry ∷ entry_items unit (place + 1) entries

-- the entries of units, of which the first has number `unit`
abbrev pub unit_items : ℕ → List (List HistoryEntry) → List Held
unit_items unit [] = []
unit_items unit (history ∷ histories) = entry_items unit 0 history ++ unit_items (unit + 1) histories

-- what a worker did, in its order
abbrev pub done_items : ℕ → List RecordedJob → List Held
done_items worker [] = []
done_items worker (done ∷ work) = done_by worker done ∷ done_items worker work

-- what workers did, of whom the first has number `worker`
abbrev pub worker_items : ℕ → List (List RecordedJob) → List Held
worker_items worker [] = []
worker_items worker (work ∷ others) = done_items worker work ++ worker_items (worker + 1) others

abbrev pub items_of : RecordView → List Held
items_of r = job_items 0 r.jobs ++ (unit_items 0 r.units ++ worker_items 0 r.done)
