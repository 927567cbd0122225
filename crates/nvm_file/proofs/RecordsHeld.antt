-- The record that is read is one that a record file can hold.
use Rattle.std.proofs.Common.{◌≡◌, ℕ, zero, suc, ◌+◌, ◌<◌, ◌≤◌, List, [], ◌∷◌, length, All, Ok, refl, sym, subst, arith}
use Rattle.std.proofs.lemmas.List.Elements.{All-nil, All-cons, All-head, All-tail}
use mathlib.Core.Option.{some-ne-none}
use Rattle.nvm_record.specs.Lists.{IsAt}
use Rattle.nvm_geometry.specs.Boundaries.{units_of}
use Rattle.nvm_geometry.specs.Namespace.{Namespace}
use Rattle.nvm_geometry.specs.Parts.{piece_in}
use Rattle.nvm_geometry.specs.Place.{IsPlaceOf}
use Rattle.nvm_plan.specs.declared.job.Job.{Job}
use Rattle.nvm_plan.specs.UnitPlace.{IsUnitPlace}
use Rattle.nvm_store.specs.HistoryEntry.{HistoryEntry}
use Rattle.nvm_audit.specs.Recordable.{IsRecordable, IsRecordableDone, IsRecordableEntry, IsRecordableJob, IsRecordableWork, most_jobs}
use Rattle.nvm_audit.specs.RecordedJob.{RecordedJob}
use Rattle.nvm_file.specs.declared.frame.Frame.{Frame}
use Rattle.nvm_file.specs.DoneReading.{done_at, work_at}
use Rattle.nvm_file.specs.EntryReading.{entry_at, history_at, place_of}
use Rattle.nvm_file.specs.Fields.{items_at, number_in}
use Rattle.nvm_file.specs.Inside.Frames.{IsSoundFrame}
use Rattle.nvm_file.specs.JobReading.{job_at}
use Rattle.nvm_file.specs.Reading.{jobs_at, record_with, scope_of, units_at, workers_at}
use Rattle.nvm_file.proofs.CommandsHeld.{IsProperEach}
use Rattle.nvm_file.proofs.DoneHeld.{IsHeldDone, done_held}
use Rattle.nvm_file.proofs.EntriesHeld.{IsHeldEntry, entry_held}
use Rattle.nvm_file.proofs.JobsHeld.{IsHeldJob, job_held}
use Rattle.nvm_file.proofs.Readings.{bind_ok, each_holds, each_stands, in_range}

-- Each unit is the piece of the whole namespace in it.
abbrev pub HasPlace : Type 0
HasPlace =
    (ns : Namespace) (unit : ℕ) → 0 < ns.nsze → unit < units_of ns
    → IsPlaceOf ns unit (piece_in ns 0 ns.nsze unit).first (piece_in ns 0 ns.nsze unit).blocks

-- What follows for each item follows for all.
all_so : {A : Type 0} (P Q : A → Type 0) → ((x : A) → P x → Q x) → (xs : List A) → All P xs → All Q xs
all_so P Q f [] all = All-nil Q
all_so P Q f (x ∷ xs) all = All-cons Q x xs (f x (All-head P x xs all)) (all_so P Q f xs (All-tail P x xs all))

below : {A : Type 0} (xs : List A) (i : ℕ) (x : A) → IsAt xs i x → i < length xs
below [] i x e = absurd (some-ne-none x (sym e))
below (y ∷ ys) zero x e = omega arith
below (y ∷ ys) (suc i) x e = let h = below ys i x e in omega arith

-- What holds of a history that was read: it is within the limit, and its entries are held where the unit has a block.
record IsHeldHistory (frame : Frame) (unit : ℕ) (history : List HistoryEntry) : Type 0 where
  few : length history ≤ frame.limit
  each : 0 < (place_of frame.geometry unit).blocks → All (IsHeldEntry frame (place_of frame.geometry unit)) history

history_held : (frame : Frame) (unit : ℕ) (bytes : List ℕ) (x : List HistoryEntry × List ℕ) → history_at frame unit bytes ≡ Ok x
    → IsHeldHistory frame unit x.0
unfolding history_at
history_held frame unit bytes x e =
    let place = place_of frame.geometry unit in
    let a = bind_ok (number_in frame.total 4 0 frame.limit bytes) (λ count. items_at (λ _. entry_at frame place) 0 count.0 count.1) x e in
    let count = in_range frame.total 4 0 frame.limit bytes a.0 a.1 in
    let many = each_holds (λ _. Unit {0}) (λ _. entry_at frame place) (λ i rest y h. tt) 0 a.0.0 a.0.1 x a.2 in
    record {
      few = omega (arith, many.1, count.1);
      each = λ blocks.
          (each_holds (IsHeldEntry frame place) (λ _. entry_at frame place)
          (λ i rest y h. entry_held frame place blocks rest y h) 0 a.0.0 a.0.1 x a.2).0;
    }

-- What holds of what a worker did, where it was read.
record IsHeldWork (ns : Namespace) (jobs : List Job) (work : List RecordedJob) : Type 0 where
  few : length work ≤ most_jobs
  each : All (IsHeldDone ns jobs) work

work_held : (frame : Frame) (jobs : List Job) (bytes : List ℕ) (x : List RecordedJob × List ℕ) → work_at frame jobs bytes ≡ Ok x
    → IsHeldWork frame.geometry jobs x.0
unfolding work_at
work_held frame jobs bytes x e =
    let a = bind_ok (number_in frame.total 4 0 most_jobs bytes) (λ count. items_at (λ _. done_at frame jobs) 0 count.0 count.1) x e in
    let count = in_range frame.total 4 0 most_jobs bytes a.0 a.1 in
    let each = each_holds (IsHeldDone frame.geometry jobs) (λ _. done_at frame jobs)
    (λ i rest y h. done_held frame jobs rest y h) 0 a.0.0 a.0.1 x a.2 in
    record { few = omega (arith, each.1, count.1); each = each.0 }

module _ (proper : IsProperEach) (has_place : HasPlace) (frame : Frame) (sound : IsSoundFrame frame) where
  place_is : (unit : ℕ) → unit < units_of frame.geometry → IsUnitPlace frame.geometry unit (place_of frame.geometry unit)
  unfolding place_of
  place_is unit lt = record { lbas = has_place frame.geometry unit sound.namespace.some lt; size = refl }

  pub record_held : (jobs : List Job) (units : List (List HistoryEntry)) (done : List (List RecordedJob)) (a b c d e f : List ℕ)
      → jobs_at frame a ≡ Ok (jobs, b) → units_at frame c ≡ Ok (units, d) → workers_at frame jobs e ≡ Ok (done, f)
      → IsRecordable (record_with frame jobs units done)
  unfolding jobs_at units_at workers_at
  record_held jobs units done a b c d e f of_jobs of_units of_workers =
      let r = record_with frame jobs units done in
      let j = each_holds (IsHeldJob (scope_of frame)) (λ _. job_at (scope_of frame)) (λ i rest y h. job_held proper (scope_of frame) rest y h) 0 frame.jobs a (jobs, b) of_jobs in
      let many = each_holds (λ _. Unit {0}) (history_at frame) (λ i rest y h. tt) 0 (units_of frame.geometry) c (units, d) of_units in
      let u = each_stands (IsHeldHistory frame) (history_at frame) (λ i rest y h. history_held frame i rest y h)
      0 (units_of frame.geometry) c (units, d) of_units in
      let w = each_holds (IsHeldWork frame.geometry jobs) (λ _. work_at frame jobs) (λ i rest y h. work_held frame jobs rest y h)
      0 frame.workers e (done, f) of_workers in
      record {
        namespace = sound.namespace;
        limit = sound.limit;
        some_worker = sound.some_worker;
        few_workers = sound.few_workers;
        few_jobs = omega (arith, j.1, sound.few_jobs);
        jobs = all_so (IsHeldJob (scope_of frame)) (IsRecordableJob r) (λ job h. record { fits = h.fits; known = h.known }) jobs j.0;
        all_units = many.1;
        units = λ unit history at.
            let lt : unit < units_of frame.geometry = subst (λ (n : ℕ). unit < n) many.1 (below units unit history at) in
            let zero_more : 0 + unit ≡ unit = omega arith in
            let h = subst (λ (n : ℕ). IsHeldHistory frame n history) zero_more (u unit history at) in
            let lies = place_is unit lt in
            record {
              few = h.few;
              place = place_of frame.geometry unit;
              lies = lies;
              each = all_so (IsHeldEntry frame (place_of frame.geometry unit)) (IsRecordableEntry r (place_of frame.geometry unit))
                  (λ entry k. record {
                    pass = k.pass;
                    job = subst (λ (n : ℕ). entry.job < n) (sym j.1) k.job;
                    act = k.operation.act;
                    covered = k.operation.covered;
                    kind = k.operation.kind;
                  }) history (h.each lies.lbas.some);
            };
        all_workers = w.1;
        done = all_so (IsHeldWork frame.geometry jobs) (IsRecordableWork r)
            (λ work h. record {
              few = h.few;
              each = all_so (IsHeldDone frame.geometry jobs) (IsRecordableDone r)
                  (λ d k. record { job = k.job; its = k.its; few = k.few; units = k.units; statuses = k.statuses; payload = k.payload })
                  work h.each;
            }) done w.0;
      }
