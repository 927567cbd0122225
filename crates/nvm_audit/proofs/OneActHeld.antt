-- There is a record of one act, with its entry and without it.
use Rattle.std.proofs.Common.{◌≡◌, ℕ, ◌<◌, ◌≤◌, List, [], ◌∷◌, length, map, cond, Bool, true, false, nat_eq, Some, None, All, Contains, IsTrue, not, refl, sym, subst, ◌∙◌, arith}
use Rattle.std.specs.List.{range_with_len}
use Rattle.std.proofs.lemmas.Bool.Decides.{Decides-eqb}
use Rattle.std.proofs.lemmas.List.Elements.{All-nil, All-cons, All-head, All-tail}
use Rattle.std.proofs.lemmas.List.FromFn.{length-map-range_with_len, get_or-map-range_with_len}
use Rattle.std.proofs.lemmas.Option.{none-some}
use Rattle.nvm_record.specs.declared.status.Statuses.TheVariants.{One}
use Rattle.nvm_record.specs.Deeds.{IsAct, IsSingle}
use Rattle.nvm_record.specs.Lists.{IsAt}
use Rattle.nvm_record.specs.Status.{successful_completion}
use Rattle.nvm_record.specs.Step.{Operation}
use Rattle.nvm_geometry.specs.Boundaries.{units_of}
use Rattle.nvm_geometry.specs.Faults.{IsValid}
use Rattle.nvm_geometry.specs.Namespace.{Namespace}
use Rattle.nvm_geometry.specs.Parts.{units_met, piece_in}
use Rattle.nvm_plan.specs.declared.job.Job.{Job}
use Rattle.nvm_plan.specs.Fits.{FitsNamespace}
use Rattle.nvm_plan.specs.JobPart.{ready_operation}
use Rattle.nvm_plan.specs.UnitPlace.{IsUnitPlace}
use Rattle.nvm_store.specs.declared.place.Place.{Place}
use Rattle.nvm_store.specs.HistoryEntry.{HistoryEntry}
use Rattle.nvm_store.specs.Place.{place_at}
use Rattle.nvm_audit.specs.declared.version.Version.{Version}
use Rattle.nvm_audit.specs.declared.version.Version.TheVariants as version
use Rattle.nvm_audit.specs.OneAct.{done_alone, entry_alone, IsOfOneAct, HasJust}
use Rattle.nvm_audit.specs.Recordable.{HoldsLimit, HoldsBody, IsRecordable, IsRecordableJob, IsRecordableEntry, IsRecordableHistory, IsRecordableDone, IsRecordableWork}
use Rattle.nvm_audit.specs.RecordView.{RecordView}
use Rattle.nvm_audit.proofs.Held as held
use Rattle.nvm_audit.proofs.Held.{KnowsParts, KeepsDeallocates, IsReadyJob, KnowsUnits, FewUnits, HasPlace, OnePlace, HasStatuses}
use Rattle.nvm_audit.proofs.OneActs.{KeepsLooks, HasPart, ShapesByPlan, shape_alone}
use Rattle.nvm_audit.proofs.RecordRuns.{CoversParts}
use Rattle.nvm_audit.proofs.Standing.{below, read_is}
use Rattle.nvm_audit.proofs.Unrefused.{unrefused}

-- the record, in which the unit has these entries
abbrev record_alone : Version → Namespace → ℕ → Job → ℕ → List HistoryEntry → RecordView
record_alone v ns limit job unit entries =
    record {
      version = v;
      namespace = ns;
      limit = limit;
      workers = 1;
      jobs = job ∷ [];
      units = map (λ k. cond (nat_eq unit k) entries []) (range_with_len 0 (units_of ns));
      done = (done_alone unit ∷ []) ∷ [];
    }

some_entry : (v : Version) (limit : ℕ) → HoldsLimit v limit → 1 ≤ limit
some_entry version.One limit h = h.0
some_entry version.Two limit h = h.0

all_more : {A : Type 0} → (P Q : A → Type 0) → ((x : A) → P x → Q x) → (xs : List A) → All P xs → All Q xs
all_more P Q more [] all = All-nil Q
all_more P Q more (x ∷ xs) all = All-cons Q x xs (more x (All-head P x xs all)) (all_more P Q more xs (All-tail P x xs all))

module _ (f : ℕ → List HistoryEntry) (n : ℕ) where
  -- what is in a list of what is made of the numbers below n
  made_of : (k : ℕ) (h : List HistoryEntry) → IsAt (map f (range_with_len 0 n)) k h → (h ≡ f k) × (k < n)
  made_of k h at =
      let lt = below (map f (range_with_len 0 n)) k h at in
      let count = length-map-range_with_len f 0 n in
      let known : k < n = omega (arith, lt, count) in
      let read = get_or-map-range_with_len f 0 n k k h known (omega arith) in
      (sym (read_is (map f (range_with_len 0 n)) k h h at) ∙ read, known)

module _ (looks : KeepsLooks) (has_part : HasPart) (covers : CoversParts) (shapes : ShapesByPlan) (known : KnowsParts)
    (keeps : KeepsDeallocates) (is_ready : IsReadyJob) (units : KnowsUnits) (few : FewUnits) (has_place : HasPlace)
    (one_place : OnePlace) (statuses : HasStatuses) (v : Version) (ns : Namespace) (limit : ℕ) (job : Job) (op : Operation) (unit : ℕ)
    (valid : IsValid ns) (room : HoldsLimit v limit) (fits : FitsNamespace ns job) (body : HoldsBody v job.body)
    (ready : ready_operation ns job ≡ Some op) (act : IsAct op.deed) (single : IsSingle op.deed) (one : units_met ns op ≡ unit ∷ [])
    (entries : List HistoryEntry) (are : All (λ e. e ≡ entry_alone ns op unit) entries) (at_most : length entries ≤ 1) where
  abbrev r : RecordView
  r = record_alone v ns limit job unit entries

  recordable_job : IsRecordableJob r job
  recordable_job = record { fits = fits; known = body }

  abbrev place_of : ℕ → Place
  place_of k = place_at (piece_in ns 0 ns.nsze k).first (piece_in ns 0 ns.nsze k).blocks ns.block_size

  entry_held : (k : ℕ) → nat_eq unit k ≡ true → (place : Place) → IsUnitPlace ns k place
      → IsRecordableEntry r place (entry_alone ns op unit)
  entry_held k same place lies =
      let free = unrefused ns job op ready in
      let k_is : unit ≡ k = (Decides-eqb unit k).0 same in
      let met = subst (λ (l : List ℕ). Contains l unit) (sym one) (0, omega arith, refl) in
      let part = has_part ns job op unit free.0 free.1 met in
      let its_act = subst (λ (b : Bool). IsTrue (not b)) (sym (looks ns op unit)) act in
      held.entries known keeps is_ready covers units has_place one_place r job unit place (entry_alone ns op unit) valid refl recordable_job
      part its_act (omega arith) (subst (λ (u : ℕ). IsUnitPlace ns u place) (sym k_is) lies)

  entries_held : (k : ℕ) (b : Bool) → nat_eq unit k ≡ b → (place : Place) → IsUnitPlace ns k place
      → All (IsRecordableEntry r place) (cond b entries [])
  entries_held k false e place lies = All-nil (IsRecordableEntry r place)
  entries_held k true e place lies =
      all_more (λ e. e ≡ entry_alone ns op unit) (IsRecordableEntry r place)
      (λ entry is. subst (λ (x : HistoryEntry). IsRecordableEntry r place x) (sym is) (entry_held k e place lies)) entries are

  few_entries : (b : Bool) → length (cond b entries []) ≤ limit
  few_entries true = let some = some_entry v limit room in omega (arith, some, at_most)
  few_entries false = omega arith

  history_held : (k : ℕ) (h : List HistoryEntry) → IsAt r.units k h → IsRecordableHistory r k h
  history_held k h at =
      let found = made_of (λ k. cond (nat_eq unit k) entries []) (units_of ns) k h at in
      let lies : IsUnitPlace ns k (place_of k) = record { lbas = has_place ns k valid.some found.1; size = refl } in
      record {
        few = subst (λ (l : List HistoryEntry). length l ≤ limit) (sym found.0) (few_entries (nat_eq unit k));
        place = place_of k;
        lies = lies;
        each =
            subst (λ (l : List HistoryEntry). All (IsRecordableEntry r (place_of k)) l) (sym found.0)
            (entries_held k (nat_eq unit k) refl (place_of k) lies);
      }

  done_held : IsRecordableDone r (done_alone unit)
  done_held =
      let free = unrefused ns job op ready in
      held.done units few statuses r job (done_alone unit) refl
      ((shapes ns job op (done_alone unit).parts (One successful_completion) None free.0 free.1).1 (shape_alone ns op unit act single one))
      (λ o bytes stands e. absurd (none-some bytes e))

  held_whole : IsRecordable r
  held_whole =
      record {
        namespace = valid;
        limit = room;
        some_worker = omega arith;
        few_workers = omega arith;
        few_jobs = omega arith;
        jobs = All-cons (IsRecordableJob r) job [] recordable_job (All-nil (IsRecordableJob r));
        all_units = length-map-range_with_len (λ k. cond (nat_eq unit k) entries []) 0 (units_of ns);
        units = history_held;
        all_workers = refl;
        done =
            All-cons (IsRecordableWork r) (done_alone unit ∷ []) []
            (record {
              few = omega arith;
              each = All-cons (IsRecordableDone r) (done_alone unit) [] done_held (All-nil (IsRecordableDone r));
            })
            (All-nil (IsRecordableWork r));
      }

  pub there : (r : RecordView) × (r.namespace ≡ ns) × IsRecordable r × IsOfOneAct r op unit × HasJust r unit entries
  there = (
    r,
    refl,
    held_whole,
    record { job = job; jobs = refl; ready = ready; act = act; single = single; one = one; done = refl },
    λ k h at. (made_of (λ k. cond (nat_eq unit k) entries []) (units_of ns) k h at).0,
  )

module _ (looks : KeepsLooks) (has_part : HasPart) (covers : CoversParts) (shapes : ShapesByPlan) (known : KnowsParts)
    (keeps : KeepsDeallocates) (is_ready : IsReadyJob) (units : KnowsUnits) (few : FewUnits) (has_place : HasPlace)
    (one_place : OnePlace) (statuses : HasStatuses) where
  pub with_entry : (v : Version) (ns : Namespace) (limit : ℕ) (job : Job) (op : Operation) (unit : ℕ) → IsValid ns → HoldsLimit v limit
      → FitsNamespace ns job → HoldsBody v job.body → ready_operation ns job ≡ Some op → IsAct op.deed → IsSingle op.deed
      → units_met ns op ≡ unit ∷ []
      → (r : RecordView) × (r.namespace ≡ ns) × IsRecordable r × IsOfOneAct r op unit × HasJust r unit (entry_alone ns op unit ∷ [])
  with_entry v ns limit job op unit valid room fits body ready act single one =
      let P : HistoryEntry → Type 0 = λ e. e ≡ entry_alone ns op unit in
      there looks has_part covers shapes known keeps is_ready units few has_place one_place statuses v ns limit job op unit valid room fits
      body ready act single one (entry_alone ns op unit ∷ []) (All-cons P (entry_alone ns op unit) [] refl (All-nil P)) (omega arith)

  pub without : (v : Version) (ns : Namespace) (limit : ℕ) (job : Job) (op : Operation) (unit : ℕ) → IsValid ns → HoldsLimit v limit
      → FitsNamespace ns job → HoldsBody v job.body → ready_operation ns job ≡ Some op → IsAct op.deed → IsSingle op.deed
      → units_met ns op ≡ unit ∷ []
      → (r : RecordView) × (r.namespace ≡ ns) × IsRecordable r × IsOfOneAct r op unit × HasJust r unit []
  without v ns limit job op unit valid room fits body ready act single one =
      let P : HistoryEntry → Type 0 = λ e. e ≡ entry_alone ns op unit in
      there looks has_part covers shapes known keeps is_ready units few has_place one_place statuses v ns limit job op unit valid room fits
      body ready act single one [] (All-nil P) (omega arith)
