-- What is made of the jobs of a record can be held in it.
use Rattle.std.proofs.Common.{◌≡◌, ◌⊎◌, ℕ, suc, ◌*◌, ◌<◌, ◌≤◌, nat_lt, List, [], ◌∷◌, length, map, filter, cond, Bool, true, false, not, Option, Some, None, MatchOption, IsSome, Contains, All, refl, sym, ap, subst, ◌∙◌, inl, inr, arith}
use Rattle.std.proofs.lemmas.Bool.{cases_Bool}
use Rattle.std.proofs.lemmas.List.{length-map, length-append}
use Rattle.std.proofs.lemmas.List.Elements.{All-nil, All-cons}
use Rattle.std.proofs.lemmas.List.FromFn.{length-map-range_with_len}
use Rattle.std.proofs.lemmas.Option.{none-some, same_Some}
use Rattle.std.specs.Option.{IsSomeAnd}
use Rattle.nvm_record.specs.declared.command.Command.{Command}
use Rattle.nvm_record.specs.declared.lba_range.LbaRange.{LbaRange}
use Rattle.nvm_record.specs.declared.op.Op.{Op}
use Rattle.nvm_record.specs.declared.op.Op.TheVariants.{Write, Read, WriteUncorrectable, Compare, WriteZeroes, Dataset, Other}
use Rattle.nvm_record.specs.declared.status.Statuses.{Statuses}
use Rattle.nvm_record.specs.Deeds.{is_deallocate, IsAct, IsOnRange}
use Rattle.nvm_record.specs.Entry.{HasDataOf}
use Rattle.nvm_record.specs.Lists.{IsAt}
use Rattle.nvm_record.specs.Op.{carries_ranges}
use Rattle.nvm_record.specs.Ranges.{most_ranges, cut_range, cut_ranges, range_at, range_count, ranges_of}
use Rattle.nvm_record.specs.Step.{Operation}
use Rattle.nvm_geometry.specs.Boundaries.{units_of}
use Rattle.nvm_geometry.specs.Deallocation.{deallocation}
use Rattle.nvm_geometry.specs.Faults.{IsValid}
use Rattle.nvm_geometry.specs.Namespace.{Namespace}
use Rattle.nvm_geometry.specs.Parts.{units_met, part_in, piece_in}
use Rattle.nvm_geometry.specs.Place.{IsPlaceOf}
use Rattle.nvm_plan.specs.declared.job.Body.{Body}
use Rattle.nvm_plan.specs.declared.job.Body.TheVariants.{Single, Pair}
use Rattle.nvm_plan.specs.declared.job.Job.{Job}
use Rattle.nvm_plan.specs.declared.part.Part.{Part}
use Rattle.nvm_plan.specs.Checks.{refusal_of}
use Rattle.nvm_plan.specs.Fits.{IsWholeBody}
use Rattle.nvm_plan.specs.JobPart.{unless_refused, ready_operation, job_part_in}
use Rattle.nvm_plan.specs.Operation.{single_operation, fused_operation, operation_of_body, job_operation_of}
use Rattle.nvm_plan.specs.Ready.{IsReadyBody, IsReady}
use Rattle.nvm_plan.specs.Shape.{HasEnding, HasShapeOf, HasShapeOfRefusal, HasOutcomeShape, IsForEach}
use Rattle.nvm_plan.specs.UnitPlace.{IsUnitPlace}
use Rattle.nvm_store.specs.declared.place.Place.{Place}
use Rattle.nvm_store.specs.HistoryEntry.{HistoryEntry}
use Rattle.nvm_audit.specs.declared.version.Version.{Version}
use Rattle.nvm_audit.specs.declared.version.Version.TheVariants.{One, Two}
use Rattle.nvm_audit.specs.Recordable.{HoldsBody, HoldsKind, IsDeallocateOfUnit, IsRecordableJob, IsRecordableEntry, IsRecordableDone}
use Rattle.nvm_audit.specs.RecordedJob.{RecordedJob}
use Rattle.nvm_audit.specs.RecordView.{RecordView}
use Rattle.nvm_audit.proofs.RecordRuns.{CoversParts}
use Rattle.nvm_audit.proofs.Standing.{below}
use Rattle.nvm_audit.proofs.Told.{part_of_shape}

-- What the laws below say that are used here.
abbrev pub KnowsParts : Type 0
KnowsParts =
    (ns : Namespace) (job : Job) (unit : ℕ) (part : Operation) → job_part_in ns job unit ≡ Some part
    → (refusal_of ns job ≡ None) × (op : Operation) × (job_operation_of ns job ≡ Some op) × Contains (units_met ns op) unit
    × (part ≡ part_in ns op unit)

abbrev pub KeepsDeallocates : Type 0
KeepsDeallocates = (ns : Namespace) (op : Operation) (unit : ℕ) → is_deallocate (part_in ns op unit).deed ≡ is_deallocate op.deed

abbrev pub IsReadyJob : Type 0
IsReadyJob = (ns : Namespace) (job : Job) → refusal_of ns job ≡ None → IsReady ns job

abbrev pub KnowsUnits : Type 0
KnowsUnits = (ns : Namespace) (op : Operation) (unit : ℕ) → Contains (units_met ns op) unit → unit < units_of ns

abbrev pub FewUnits : Type 0
FewUnits = (ns : Namespace) (op : Operation) → length (units_met ns op) ≤ units_of ns

abbrev pub HasPlace : Type 0
HasPlace =
    (ns : Namespace) (unit : ℕ) → 0 < ns.nsze → unit < units_of ns
    → IsPlaceOf ns unit (piece_in ns 0 ns.nsze unit).first (piece_in ns 0 ns.nsze unit).blocks

abbrev pub OnePlace : Type 0
OnePlace =
    (ns : Namespace) (unit first blocks start count : ℕ) → IsPlaceOf ns unit first blocks → IsPlaceOf ns unit start count
    → (first ≡ start) × (blocks ≡ count)

abbrev pub HasStatuses : Type 0
HasStatuses =
    (ns : Namespace) (job : Job) (parts : List Part) (told : Statuses) (read : Option (List ℕ))
    → HasOutcomeShape ns job parts told read → IsForEach job.body told

fewer : {A : Type 0} → (f : A → Bool) (xs : List A) → length (filter f xs) ≤ length xs
fewer f [] = omega arith
fewer f (x ∷ xs) = by (f x) (fewer f xs)
  where
    by : (b : Bool) → length (filter f xs) ≤ length xs → length (cond b (x ∷ filter f xs) (filter f xs)) ≤ suc (length xs)
    by true h = omega (arith, h)
    by false h = omega (arith, h)

few_left : (first blocks : ℕ) (ranges : List LbaRange) → length ranges ≤ most_ranges → length (cut_ranges first blocks ranges) ≤ most_ranges
few_left first blocks ranges few =
    let cut = fewer (λ r. nat_lt 0 r.blocks) (map (cut_range first blocks) ranges) in
    let same = length-map ranges (cut_range first blocks) in
    omega (arith, cut, same, few)

-- A command that deallocates is a Dataset Management, with the ranges of its operation.
record Deallocates (ns : Namespace) (o : Op) (op : Operation) : Type 0 where
  ranges : List LbaRange
  op_is : op ≡ deallocation ns ranges
  few : length ranges ≤ most_ranges
  carries : carries_ranges o ≡ true

by_op : (ns : Namespace) (o : Op) (c : Command) (op : Operation) → single_operation ns o c ≡ Some op → is_deallocate op.deed ≡ true
    → HasDataOf ns.block_size o c → Deallocates ns o op
by_op ns Write c op is deallocates_it whole = absurd (cc (ap (λ (x : Operation). is_deallocate x.deed) (same_Some _ op is), deallocates_it))
by_op ns Read c op is deallocates_it whole = absurd (cc (ap (λ (x : Operation). is_deallocate x.deed) (same_Some _ op is), deallocates_it))
by_op ns WriteUncorrectable c op is deallocates_it whole = absurd (cc (ap (λ (x : Operation). is_deallocate x.deed) (same_Some _ op is), deallocates_it))
by_op ns Compare c op is deallocates_it whole = absurd (cc (ap (λ (x : Operation). is_deallocate x.deed) (same_Some _ op is), deallocates_it))
by_op ns WriteZeroes c op is deallocates_it whole = absurd (cc (ap (λ (x : Operation). is_deallocate x.deed) (same_Some _ op is), deallocates_it))
by_op ns (Dataset true) c op is deallocates_it whole =
    let count = length-map-range_with_len (range_at c.payload) 0 (range_count c.payload) in
    let few = whole.few in
    record { ranges = ranges_of c.payload; op_is = sym (same_Some _ op is); few = omega (arith, count, few); carries = refl }
by_op ns (Dataset false) c op is deallocates_it whole =
    record { ranges = []; op_is = sym (same_Some _ op is); few = omega arith; carries = refl }
by_op ns (Other opcode) c op is deallocates_it whole = absurd (none-some op is)

record DeallocatesAll (ns : Namespace) (body : Body) (op : Operation) : Type 0 where
  ranges : List LbaRange
  op_is : op ≡ deallocation ns ranges
  few : length ranges ≤ most_ranges
  later : HoldsBody One body → ⊥

by_body : (ns : Namespace) (body : Body) (op : Operation) → IsReadyBody ns body → operation_of_body ns body ≡ Some op
    → is_deallocate op.deed ≡ true → IsWholeBody ns.block_size body → DeallocatesAll ns body op
by_body ns (Single c) op ready is deallocates_it (inl whole) =
    let found = by_op ns c.op c op is deallocates_it whole.payload in
    record {
      ranges = found.ranges;
      op_is = found.op_is;
      few = found.few;
      later = λ held. cc (ap not found.carries, held);
    }
by_body ns (Single c) op ready is deallocates_it (inr unknown) =
    absurd (none-some op (subst (λ (o : Op). single_operation ns o c ≡ Some op) unknown.op is))
by_body ns (Pair c d) op ready is deallocates_it whole =
    let first = subst (λ (o : Op). fused_operation o d.op c d ≡ Some op) ready.compare is in
    let second = subst (λ (o : Op). fused_operation Compare o c d ≡ Some op) ready.write first in
    absurd (cc (ap (λ (x : Operation). is_deallocate x.deed) (same_Some _ op second), deallocates_it))

module _ (known : KnowsParts) (keeps : KeepsDeallocates) (is_ready : IsReadyJob) (covers : CoversParts) (units : KnowsUnits)
    (has_place : HasPlace) (one_place : OnePlace) where
  -- what is known of a part that deallocates
  record IsOfDataset (job : Job) (place : Place) (op : Operation) : Type 0 where
    later : HoldsBody One job.body → ⊥
    whole_unit : IsDeallocateOfUnit place op

  of_dataset : (ns : Namespace) (job : Job) (unit : ℕ) (place : Place) (op : Operation) → IsValid ns → IsWholeBody ns.block_size job.body
      → job_part_in ns job unit ≡ Some op → IsUnitPlace ns unit place → is_deallocate op.deed ≡ true → IsOfDataset job place op
  of_dataset ns job unit place op valid whole here lies e =
      let has = known ns job unit op here in
      let deallocates_it : is_deallocate has.1.deed ≡ true =
      sym (keeps ns has.1 unit) ∙ ap (λ (x : Operation). is_deallocate x.deed) (sym has.4) ∙ e in
      let body = by_body ns job.body has.1 (is_ready ns job has.0) has.2 deallocates_it whole in
      let all : op ≡ part_in ns (deallocation ns body.ranges) unit = has.4 ∙ ap (λ (x : Operation). part_in ns x unit) body.op_is in
      let piece = piece_in ns 0 ns.nsze unit in
      let same = one_place ns unit piece.first piece.blocks place.first place.blocks
      (has_place ns unit valid.some (units ns has.1 unit has.3)) lies.lbas in
      record {
        later = body.later;
        whole_unit =
            subst (λ (x : Operation). IsDeallocateOfUnit place x) (sym all)
            (record {
              ranges = cut_ranges piece.first piece.blocks body.ranges;
              deed = refl;
              first = same.0;
              blocks = same.1;
              few = few_left piece.first piece.blocks body.ranges body.few;
            });
      }

  on_range : (op : Operation) → is_deallocate op.deed ≡ false → IsOnRange op.deed
  on_range op e = ap not e

  kind : (ns : Namespace) (job : Job) (version : Version) (unit : ℕ) (place : Place) (op : Operation) → IsValid ns
      → IsWholeBody ns.block_size job.body → HoldsBody version job.body → job_part_in ns job unit ≡ Some op → IsUnitPlace ns unit place
      → HoldsKind version place op
  kind ns job One unit place op valid whole held here lies = elim (cases_Bool (is_deallocate op.deed)) [
    | inl e ↦ absurd ((of_dataset ns job unit place op valid whole here lies e).later held)
    | inr e ↦ on_range op e
  ]
  kind ns job Two unit place op valid whole held here lies = elim (cases_Bool (is_deallocate op.deed)) [
    | inl e ↦ inr (of_dataset ns job unit place op valid whole here lies e).whole_unit
    | inr e ↦ inl (on_range op e)
  ]

  pub entries : (r : RecordView) (job : Job) (unit : ℕ) (place : Place) (entry : HistoryEntry) → IsValid r.namespace
      → IsAt r.jobs entry.job job → IsRecordableJob r job → job_part_in r.namespace job unit ≡ Some entry.operation
      → IsAct entry.operation.deed → entry.pass < r.workers → IsUnitPlace r.namespace unit place → IsRecordableEntry r place entry
  entries r job unit place entry valid its held here act pass lies =
      record {
        pass = pass;
        job = below r.jobs entry.job job its;
        act = act;
        covered = covers r.namespace job unit place entry.operation held.fits here lies;
        kind = kind r.namespace job r.version unit place entry.operation valid held.fits.body held.known here lies;
      }

-- A shape is that of an operation, or of a refusal.
by_plan : (ns : Namespace) (refused : Option Statuses) (stands : Option Operation) (parts : List Part) (told : Statuses) (read : Option (List ℕ))
    → MatchOption refused (IsSomeAnd stands (λ op. HasShapeOf ns op parts told read)) (λ refusal. HasShapeOfRefusal refusal parts told read)
    → ((op : Operation) × (unless_refused refused stands ≡ Some op) × HasShapeOf ns op parts told read) ⊎ ((parts ≡ []) × (read ≡ None))
by_plan ns (Some refusal) stands parts told read h = inr (h.none_done, h.payload)
by_plan ns None (Some op) parts told read h = inl (op, refl, h)
by_plan ns None None parts told read h = absurd h

few_parts : (ns : Namespace) (op : Operation) (parts : List Part) (told : Statuses) → HasEnding ns op parts told
    → length parts ≤ length (units_met ns op)
few_parts ns op parts told (inl unmet) = subst (λ (l : List Part). length l ≤ length (units_met ns op)) (sym unmet.none_done) (omega arith)
few_parts ns op parts told (inr (inl unstarted)) =
    subst (λ (l : List Part). length l ≤ length (units_met ns op)) (sym unstarted.none_done) (omega arith)
few_parts ns op parts told (inr (inr ended)) =
    let count = ap length ended.units in
    let joined = length-append (map (λ (p : Part). p.unit) parts) ended.left in
    let same = length-map parts (λ (p : Part). p.unit) in
    omega (arith, count, joined, same)

pub all_from : {A : Type 0} → (P : A → Type 0) (xs : List A) → ((i : ℕ) (x : A) → IsAt xs i x → P x) → All P xs
all_from P [] each = All-nil P
all_from P (x ∷ xs) each = All-cons P x xs (each 0 x refl) (all_from P xs (λ i y at. each (suc i) y at))

module _ (units : KnowsUnits) (few : FewUnits) (statuses : HasStatuses) where
  pub done : (r : RecordView) (job : Job) (d : RecordedJob) → IsAt r.jobs d.job job
      → HasOutcomeShape r.namespace job d.parts d.statuses d.payload
      → ((op : Operation) (bytes : List ℕ) → ready_operation r.namespace job ≡ Some op → d.payload ≡ Some bytes
      → length bytes ≡ op.blocks * r.namespace.block_size)
      → IsRecordableDone r d
  done r job d its shape whole =
      elim (by_plan r.namespace (refusal_of r.namespace job) (job_operation_of r.namespace job) d.parts d.statuses d.payload shape) [
        | inl ready ↦
            let op = ready.0 in
            let most = few r.namespace op in
            let parts = few_parts r.namespace op d.parts d.statuses ready.2.ending in
            record {
              job = job;
              its = its;
              few = omega (arith, most, parts);
              units =
                  all_from (λ (p : Part). p.unit < units_of r.namespace) d.parts
                  (λ i p at. units r.namespace op p.unit (part_of_shape r.namespace op d.parts d.statuses d.payload ready.2 i p at).met);
              statuses = statuses r.namespace job d.parts d.statuses d.payload shape;
              payload =
                  λ bytes e.
                  let gives = ready.2.payload.0 (subst (λ (o : Option (List ℕ)). IsSome o) (sym e) refl) in
                  record { op = op; ready = ready.1; read = gives.0; whole = whole op bytes ready.1 e };
            }
        | inr none ↦ record {
          job = job;
          its = its;
          few = subst (λ (l : List Part). length l ≤ units_of r.namespace) (sym none.0) (omega arith);
          units =
              subst (λ (l : List Part). All (λ (p : Part). p.unit < units_of r.namespace) l) (sym none.0)
              (All-nil (λ (p : Part). p.unit < units_of r.namespace));
          statuses = statuses r.namespace job d.parts d.statuses d.payload shape;
          payload = λ bytes e. absurd (none-some bytes (sym none.1 ∙ e));
        }
      ]
