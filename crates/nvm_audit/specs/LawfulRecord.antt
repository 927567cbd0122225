-- The lawful record: when the answers of a run are those of one-thread block stores, one for each atomic unit, whatever the
-- order in which its workers did their jobs (own): for commands within the advertised limits, that is the atomicity of NVM
-- Command Set Specification, "Atomic Operation" and "Atomic Boundaries", and of Base Specification, "Fused Operation". It
-- needs nothing else: that nothing is left out of the record and that its numbers are in their ranges is a part of it. How a run came
-- to it isn't asked, nor which version of the file holds it.
use Rattle.std.specs.Prelude.{◌≡◌, ℕ, ◌<◌, ◌≤◌, nat_eq, List, length, count_by}
use Rattle.std.specs.List.{All, sum_by}
use Rattle.nvm_record.specs.Lists.{IsAt}
use Rattle.nvm_geometry.specs.Boundaries.{units_of}
use Rattle.nvm_geometry.specs.Faults.{IsValid}
use Rattle.nvm_geometry.specs.Namespace.{Namespace}
use Rattle.nvm_plan.specs.declared.job.Job.{Job}
use Rattle.nvm_plan.specs.Fits.{FitsNamespace}
use Rattle.nvm_plan.specs.Shape.{HasOutcomeShape}
use Rattle.nvm_store.specs.HistoryEntry.{HistoryEntry}
use Rattle.nvm_store.specs.Limit.{IsLimit}
use Rattle.nvm_audit.specs.LawfulUnit.{IsLawfulUnit}
use Rattle.nvm_audit.specs.Recordable.{most_workers, HoldsWholeReads}
use Rattle.nvm_audit.specs.RecordedJob.{RecordedJob}
use Rattle.nvm_audit.specs.RecordedPart.{parts_in_unit}
use Rattle.nvm_audit.specs.RecordView.{RecordView}

-- how often the job of this number was done
abbrev pub times_done : ℕ → List (List RecordedJob) → ℕ
times_done number done = sum_by (λ work. count_by (λ d. nat_eq d.job number) work) done

-- What is recorded of a done job has the shape of an outcome of its job: no part of a refused one; else the parts of the
-- first units in which it has one, with results that its command can have, the last of which decides; and data only of a
-- Read that succeeded.
pub record HasItsShape (ns : Namespace) (jobs : List Job) (d : RecordedJob) : Type 0 where
  pub job : Job
  pub its : IsAt jobs d.job job
  pub shape : HasOutcomeShape ns job d.parts d.statuses d.payload

-- What is recorded of each done job has its shape.
abbrev pub HaveShapes : RecordView → Type 0
HaveShapes r =
    (worker : ℕ) (work : List RecordedJob) (k : ℕ) (d : RecordedJob) → IsAt r.done worker work → IsAt work k d
    → HasItsShape r.namespace r.jobs d

-- Nothing is left out of the record. The namespace has no fault, and the limit and the number of workers are in their ranges.
-- The jobs fit the namespace. Each unit has a history, within the limit. Each worker has what it did, with the whole data of
-- each Read.
pub record IsComplete (r : RecordView) : Type 0 where
  pub namespace : IsValid r.namespace
  pub limit : IsLimit r.limit
  pub some_worker : 1 ≤ r.workers
  pub few_workers : r.workers ≤ most_workers
  pub jobs : All (FitsNamespace r.namespace) r.jobs
  pub all_units : length r.units ≡ units_of r.namespace
  pub within : (unit : ℕ) (history : List HistoryEntry) → IsAt r.units unit history → length history ≤ r.limit
  pub all_workers : length r.done ≡ r.workers
  pub reads : HoldsWholeReads r

pub record IsLawfulRecord (r : RecordView) : Type 0 where
  pub complete : IsComplete r
  -- Each job was done once.
  pub once : (number : ℕ) → number < length r.jobs → times_done number r.done ≡ 1
  -- Each done job has the shape of its outcome.
  pub shapes : HaveShapes r
  -- Each unit's history is lawful, with the parts that name the unit.
  pub units : (unit : ℕ) (history : List HistoryEntry) → IsAt r.units unit history
      → IsLawfulUnit r.namespace r.limit r.jobs unit history (parts_in_unit unit r.done)
