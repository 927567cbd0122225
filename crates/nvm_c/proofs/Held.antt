-- What was gathered can be held in a record.
use Rattle.std.proofs.Common.{◌≡◌, ℕ, ◌<◌, ◌≤◌, List, length, Some, All, refl, arith}
use Rattle.nvm_record.specs.Deeds.{IsAct}
use Rattle.nvm_record.specs.Lists.{IsAt}
use Rattle.nvm_geometry.specs.Boundaries.{units_of}
use Rattle.nvm_geometry.specs.Faults.{IsValid}
use Rattle.nvm_geometry.specs.Namespace.{Namespace}
use Rattle.nvm_geometry.specs.Parts.{piece_in}
use Rattle.nvm_geometry.specs.Place.{IsPlaceOf}
use Rattle.nvm_plan.specs.declared.job.Job.{Job}
use Rattle.nvm_plan.specs.Fits.{FitsNamespace}
use Rattle.nvm_plan.specs.JobPart.{job_part_in}
use Rattle.nvm_plan.specs.UnitPlace.{IsUnitPlace}
use Rattle.nvm_store.specs.declared.place.Place.{Place}
use Rattle.nvm_store.specs.HistoryEntry.{HistoryEntry}
use Rattle.nvm_store.specs.Limit.{IsLimit}
use Rattle.nvm_audit.specs.declared.version.Version.TheVariants.{Two}
use Rattle.nvm_audit.specs.Recordable.{most_jobs, HoldsBody, IsRecordable, IsRecordableDone, IsRecordableEntry, IsRecordableHistory, IsRecordableJob, IsRecordableWork}
use Rattle.nvm_audit.specs.RecordedJob.{RecordedJob}
use Rattle.nvm_audit.specs.RecordView.{RecordView}
use Rattle.nvm_c.specs.Inside.Gathering.{CanHold, CanHoldWork, IsEntryOf, IsHistoryOf}
use Rattle.nvm_c.proofs.Places.{all_at, all_from_at, at_below}

-- the record
abbrev pub run_of : Namespace → ℕ → ℕ → List Job → List (List HistoryEntry) → List (List RecordedJob) → RecordView
run_of ns most workers jobs units done =
    record {
      version = Two;
      namespace = ns;
      limit = most;
      workers = workers;
      jobs = jobs;
      units = units;
      done = done;
    }

-- the laws of lower crates that are used
abbrev pub EntriesAreHeld : Type 0
EntriesAreHeld =
    (r : RecordView) (job : Job) (unit : ℕ) (place : Place) (entry : HistoryEntry)
    → IsValid r.namespace → IsAt r.jobs entry.job job → IsRecordableJob r job
    → job_part_in r.namespace job unit ≡ Some entry.operation → IsAct entry.operation.deed → entry.pass < r.workers
    → IsUnitPlace r.namespace unit place → IsRecordableEntry r place entry

abbrev pub UnitsHavePlaces : Type 0
UnitsHavePlaces =
    (ns : Namespace) (unit : ℕ) → 0 < ns.nsze → unit < units_of ns
    → IsPlaceOf ns unit (piece_in ns 0 ns.nsze unit).first (piece_in ns 0 ns.nsze unit).blocks

module _ (entries : EntriesAreHeld) (places : UnitsHavePlaces) (ns : Namespace) (most workers : ℕ) (jobs : List Job)
    (units : List (List HistoryEntry)) (done : List (List RecordedJob)) (valid : IsValid ns) (sound : IsLimit most)
    (some : 0 < workers) (few : workers ≤ 64) (few_jobs : length jobs ≤ most_jobs) (fit : All (FitsNamespace ns) jobs)
    (known : All (λ job. HoldsBody Two job.body) jobs) (count : length units ≡ units_of ns)
    (histories : (unit : ℕ) (history : List HistoryEntry) → IsAt units unit history → IsHistoryOf ns most jobs workers unit history)
    (all : length done ≡ workers) (works : All (CanHoldWork ns jobs) done) where
  job_held : (i : ℕ) (job : Job) → IsAt jobs i job → IsRecordableJob (run_of ns most workers jobs units done) job
  job_held i job at = record { fits = all_at (FitsNamespace ns) jobs i job fit at; known = all_at (λ j. HoldsBody Two j.body) jobs i job known at }

  entry_held : (unit : ℕ) (place : Place) (entry : HistoryEntry) → IsUnitPlace ns unit place → IsEntryOf ns jobs workers unit entry
      → IsRecordableEntry (run_of ns most workers jobs units done) place entry
  entry_held unit place entry lies of =
      entries (run_of ns most workers jobs units done) of.job unit place entry valid of.its (job_held entry.job of.job of.its) of.part of.act of.pass lies

  history_held : (unit : ℕ) (history : List HistoryEntry) → IsAt units unit history
      → IsRecordableHistory (run_of ns most workers jobs units done) unit history
  history_held unit history at =
      let of = histories unit history at in
      let below = at_below units unit history at in
      let known_unit : unit < units_of ns = omega (arith, below, count) in
      let place : Place = record { first = (piece_in ns 0 ns.nsze unit).first; blocks = (piece_in ns 0 ns.nsze unit).blocks; size = ns.block_size } in
      let lies : IsUnitPlace ns unit place = record { lbas = places ns unit valid.some known_unit; size = refl } in
      record {
        few = of.few;
        place = place;
        lies = lies;
        each = all_from_at (IsRecordableEntry (run_of ns most workers jobs units done) place) history
            (λ k entry there. entry_held unit place entry lies (all_at (IsEntryOf ns jobs workers unit) history k entry of.each there));
      }

  done_held : (did : RecordedJob) → CanHold ns jobs did → IsRecordableDone (run_of ns most workers jobs units done) did
  done_held did can = record { job = can.job; its = can.its; few = can.holds.few; units = can.holds.units; statuses = can.holds.statuses; payload = can.holds.payload }

  work_held : (work : List RecordedJob) → CanHoldWork ns jobs work → IsRecordableWork (run_of ns most workers jobs units done) work
  work_held work can = record {
    few = can.few;
    each = all_from_at (IsRecordableDone (run_of ns most workers jobs units done)) work
        (λ k did at. done_held did (all_at (CanHold ns jobs) work k did can.each at));
  }

  pub recordable : IsRecordable (run_of ns most workers jobs units done)
  recordable = record {
    namespace = valid;
    limit = sound;
    some_worker = some;
    few_workers = few;
    few_jobs = few_jobs;
    jobs = all_from_at (IsRecordableJob (run_of ns most workers jobs units done)) jobs (λ i job at. job_held i job at);
    all_units = count;
    units = history_held;
    all_workers = all;
    done = all_from_at (IsRecordableWork (run_of ns most workers jobs units done)) done
        (λ k work at. work_held work (all_at (CanHoldWork ns jobs) done k work works at));
  }
