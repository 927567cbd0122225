-- A record is read of its spelling.
use Rattle.std.proofs.Common.{◌≡◌, ℕ, ◌+◌, ◌<◌, ◌≤◌, List, [], ◌++◌, length, append-nil, append_assoc, All, get_or, Ok, refl, sym, ap, subst, ◌∙◌, arith}
use Rattle.std.specs.List.{flat_map}
use Rattle.std.proofs.lemmas.List.Elements.{recursion_from_All}
use Rattle.byteorder.specs.Endian.{little_bytes}
use Rattle.nvm_record.specs.Lists.{IsAt}
use Rattle.nvm_geometry.specs.Boundaries.{units_of}
use Rattle.nvm_geometry.specs.Namespace.{Namespace}
use Rattle.nvm_geometry.specs.Parts.{piece_in}
use Rattle.nvm_geometry.specs.Place.{IsPlaceOf}
use Rattle.nvm_plan.specs.declared.job.Job.{Job}
use Rattle.nvm_plan.specs.Fits.{FitsNamespace}
use Rattle.nvm_store.specs.declared.place.Place.{Place}
use Rattle.nvm_store.specs.HistoryEntry.{HistoryEntry}
use Rattle.nvm_audit.specs.declared.version.Version.{Version}
use Rattle.nvm_audit.specs.declared.version.Version.TheVariants.{One, Two}
use Rattle.nvm_audit.specs.Recordable.{HoldsBody, HoldsLimit, IsRecordable, IsRecordableHistory, IsRecordableWork}
use Rattle.nvm_audit.specs.RecordedJob.{RecordedJob}
use Rattle.nvm_audit.specs.RecordView.{RecordView}
use Rattle.nvm_file.specs.declared.frame.Frame.{Frame}
use Rattle.nvm_file.specs.EntryReading.{history_at, place_of}
use Rattle.nvm_file.specs.EntrySpelling.{history_bytes}
use Rattle.nvm_file.specs.DoneReading.{work_at}
use Rattle.nvm_file.specs.Fields.{items_at}
use Rattle.nvm_file.specs.Fits.{DoneFits, FitsItsFields, JobFits}
use Rattle.nvm_file.specs.HeadReading.{frame_with, head_at}
use Rattle.nvm_file.specs.HeadSpelling.{head_bytes}
use Rattle.nvm_file.specs.JobReading.{job_at}
use Rattle.nvm_file.specs.JobSpelling.{job_bytes}
use Rattle.nvm_file.specs.Reading.{body_of, jobs_at, record_at, scope_of, units_at, workers_at}
use Rattle.nvm_file.specs.Spelling.{record_bytes}
use Rattle.nvm_file.specs.WorkSpelling.{work_bytes}
use Rattle.nvm_file.proofs.DoneReturn.{MayBeDone, work_returns}
use Rattle.nvm_file.proofs.EntriesReturn.{MayStand, history_returns}
use Rattle.nvm_file.proofs.HeadsReturn.{head_returns}
use Rattle.nvm_file.proofs.JobsReturn.{job_returns}
use Rattle.nvm_file.proofs.Places.{below_length}
use Rattle.nvm_file.proofs.RecordsHeld.{HasPlace}
use Rattle.nvm_file.proofs.Returning.{each_returns, items_return, read_then}

-- No unit has two places.
abbrev pub HasOnePlace : Type 0
HasOnePlace =
    (ns : Namespace) (unit first blocks start count : ℕ) → IsPlaceOf ns unit first blocks → IsPlaceOf ns unit start count
    → (first ≡ start) × (blocks ≡ count)

few_entries : (version : Version) (limit : ℕ) → HoldsLimit version limit → limit ≤ 4194304
few_entries One limit h = omega (arith, h.1)
few_entries Two limit h = h.1

module _ (has_place : HasPlace) (one_place : HasOnePlace) (r : RecordView) (can : IsRecordable r) (fit : FitsItsFields r) where
  frame_of : ℕ → Frame
  frame_of total = frame_with total r.version r.namespace r.limit r.workers (length r.jobs)

  jobs_return : (total : ℕ) (rest : List ℕ) → jobs_at (frame_of total) (flat_map job_bytes r.jobs ++ rest) ≡ Ok (r.jobs, rest)
  unfolding jobs_at frame_of
  jobs_return total rest =
      let P = λ (job : Job). (FitsNamespace r.namespace job) × (HoldsBody r.version job.body) × JobFits job in
      let each : All P r.jobs = λ k d below. let h = can.jobs k d below in (h.fits, h.known, fit.jobs k d below) in
      items_return job_bytes P (λ _. job_at (scope_of (frame_of total))) (λ i job after h. job_returns (scope_of (frame_of total)) job after h.0 h.1 h.2)
      0 r.jobs rest (recursion_from_All P r.jobs each)

  -- the place at which a unit of the record is read
  place_is : (unit : ℕ) (place : Place) → unit < units_of r.namespace → IsPlaceOf r.namespace unit place.first place.blocks
      → place.size ≡ r.namespace.block_size → place_of r.namespace unit ≡ place
  unfolding place_of
  place_is unit place known lies size =
      let ns = r.namespace in
      let piece = piece_in ns 0 ns.nsze unit in
      let same = one_place ns unit piece.first piece.blocks place.first place.blocks (has_place ns unit can.namespace.some known) lies in
      λ i. record { first = same.0 i; blocks = same.1 i; size = sym size i }

  unit_returns : (total unit : ℕ) (history : List HistoryEntry) (rest : List ℕ) → unit < units_of r.namespace
      → IsRecordableHistory r unit history → history_at (frame_of total) unit (history_bytes history ++ rest) ≡ Ok (history, rest)
  unfolding frame_of
  unit_returns total unit history rest known h =
      let place = place_is unit h.place known h.lies.lbas h.lies.size in
      let low : h.place.first + h.place.blocks ≤ 65536 = omega (arith, h.lies.lbas.inside, can.namespace.size) in
      let may : All (MayStand (frame_of total) h.place) history = λ k d below. let e = h.each k d below in record {
        pass = e.pass;
        job = e.job;
        act = e.act;
        covered = e.covered;
        kind = e.kind;
      } in
      history_returns (frame_of total) unit history rest (subst (λ (p : Place). p.first + p.blocks ≤ 65536) (sym place) low)
      can.few_workers can.few_jobs (few_entries r.version r.limit can.limit) h.few
      (subst (λ (p : Place). All (MayStand (frame_of total) p) history) (sym place) may)

  units_return : (total : ℕ) (rest : List ℕ) → units_at (frame_of total) (flat_map history_bytes r.units ++ rest) ≡ Ok (r.units, rest)
  unfolding units_at frame_of
  units_return total rest =
      let P = λ (unit : ℕ) (history : List HistoryEntry). (unit < units_of r.namespace) × IsRecordableHistory r unit history in
      let each : (i : ℕ) (history : List HistoryEntry) → IsAt r.units i history → P (0 + i) history =
      λ i history at.
      let whole : i ≡ 0 + i = omega arith in
      subst (λ (n : ℕ). P n history) whole
      (subst (λ (n : ℕ). i < n) can.all_units (below_length r.units i history at), can.units i history at) in
      ap (λ (n : ℕ). items_at (history_at (frame_of total)) 0 n (flat_map history_bytes r.units ++ rest)) (sym can.all_units)
      ∙ each_returns history_bytes P (history_at (frame_of total))
      (λ i history after h. unit_returns total i history after h.0 h.1) 0 r.units rest each

  worker_returns : (total : ℕ) (work : List RecordedJob) (rest : List ℕ) → IsRecordableWork r work → All DoneFits work
      → work_at (frame_of total) r.jobs (work_bytes work ++ rest) ≡ Ok (work, rest)
  unfolding frame_of
  worker_returns total work rest h fits =
      let may : All (MayBeDone (frame_of total) r.jobs) work =
      λ k d below.
      let done = h.each k d below in
      let numbers = fits k d below in
      record {
        job = done.job;
        its = done.its;
        below = omega (arith, below_length r.jobs (get_or work k d).job done.job done.its, can.few_jobs);
        few = done.few;
        parts = recursion_from_All _ (get_or work k d).parts (λ i e under. (done.units i e under, numbers.parts i e under));
        each = done.statuses;
        statuses = numbers.statuses;
        payload = done.payload;
      } in
      work_returns (frame_of total) r.jobs work rest can.namespace.units h.few may

  workers_return : (total : ℕ) (rest : List ℕ)
      → workers_at (frame_of total) r.jobs (flat_map work_bytes r.done ++ rest) ≡ Ok (r.done, rest)
  unfolding workers_at frame_of
  workers_return total rest =
      let P = λ (work : List RecordedJob). IsRecordableWork r work × All DoneFits work in
      let each : All P r.done = λ k d below. (can.done k d below, fit.done k d below) in
      ap (λ (n : ℕ). items_at (λ _. work_at (frame_of total) r.jobs) 0 n (flat_map work_bytes r.done ++ rest)) (sym can.all_workers)
      ∙ items_return work_bytes P (λ _. work_at (frame_of total) r.jobs)
      (λ i work after h. worker_returns total work after h.0 h.1) 0 r.done rest (recursion_from_All P r.done each)

  body_returns : (total : ℕ)
      → body_of (frame_of total) (flat_map job_bytes r.jobs ++ (flat_map history_bytes r.units ++ flat_map work_bytes r.done)) ≡ Ok r
  unfolding body_of frame_of
  body_returns total =
      let units = flat_map history_bytes r.units in
      let done = flat_map work_bytes r.done in
      let last : workers_at (frame_of total) r.jobs done ≡ Ok (r.done, []) =
      ap (workers_at (frame_of total) r.jobs) (sym (append-nil done)) ∙ workers_return total [] in
      read_then _ _ _ _ (jobs_return total (units ++ done))
      (read_then _ _ _ _ (units_return total done)
      (read_then _ _ _ _ last refl))

  pub record_returns : record_at (record_bytes r) ≡ Ok r
  unfolding record_at frame_of
  record_returns =
      let total = length (record_bytes r) in
      let jobs = flat_map job_bytes r.jobs in
      let after = flat_map history_bytes r.units ++ flat_map work_bytes r.done in
      let count = little_bytes 4 (length r.jobs) in
      let head = head_returns total r (length r.jobs) (jobs ++ after) can fit.namespace can.few_jobs in
      read_then _ _ _ _ (ap (λ (l : List ℕ). head_at total (head_bytes r ++ l)) (append_assoc count jobs after) ∙ head)
      (body_returns total)
