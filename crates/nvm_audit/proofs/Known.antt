-- What is known of a unit of a record whose jobs have their shapes.
use Rattle.std.proofs.Common.{◌≡◌, ◌↔◌, ℕ, ◌<◌, List, [], Option, Some, None, IsSome, refl, sym, subst, ◌∙◌, arith}
use mathlib.Core.Bool.{true≢false}
use Rattle.nvm_record.specs.declared.status.Statuses.{Statuses}
use Rattle.nvm_record.specs.Lists.{IsAt}
use Rattle.nvm_record.specs.Step.{Operation}
use Rattle.nvm_geometry.specs.Namespace.{Namespace}
use Rattle.nvm_plan.specs.declared.job.Job.{Job}
use Rattle.nvm_plan.specs.declared.part.Part.{Part}
use Rattle.nvm_plan.specs.Checks.{refusal_of}
use Rattle.nvm_plan.specs.JobPart.{job_part_in}
use Rattle.nvm_plan.specs.Operation.{job_operation_of}
use Rattle.nvm_plan.specs.Shape.{HasOutcomeShape, HasShapeOfRefusal}
use Rattle.nvm_plan.specs.UnitPlace.{IsUnitPlace}
use Rattle.nvm_store.specs.declared.place.Place.{Place}
use Rattle.nvm_store.specs.HistoryEntry.{HistoryEntry}
use Rattle.nvm_store.specs.Limit.{IsLimit}
use Rattle.nvm_store.specs.Place.{place_at, IsCovered}
use Rattle.nvm_audit.specs.declared.version.Version.{Version}
use Rattle.nvm_audit.specs.declared.version.Version.TheVariants.{One, Two}
use Rattle.nvm_audit.specs.Inside.Audited.{IsKnownPart, IsKnownUnit}
use Rattle.nvm_audit.specs.LawfulRecord.{HaveShapes}
use Rattle.nvm_audit.specs.Recordable.{HoldsLimit, IsLongAsRead, IsRecordable, IsRecordableDone, IsRecordableEntry, IsRecordableJob, IsRecordableWork}
use Rattle.nvm_audit.specs.RecordedJob.{RecordedJob}
use Rattle.nvm_audit.specs.RecordedPart.{RecordedPart, parts_in_unit}
use Rattle.nvm_audit.specs.RecordView.{RecordView}
use Rattle.nvm_audit.specs.UnitView.{view_of_unit}
use Rattle.nvm_audit.proofs.Held.{OnePlace}
use Rattle.nvm_audit.proofs.OneActs.{HasPart, ShapesByPlan}
use Rattle.nvm_audit.proofs.PartsFrom.{comes_from}
use Rattle.nvm_audit.proofs.Standing.{none_stands, below, one_there, all_at}
use Rattle.nvm_audit.proofs.Told.{part_of_shape}

limit_is : (version : Version) (limit : ℕ) → HoldsLimit version limit → IsLimit limit
limit_is One limit h = let low = h.0 in let high = h.1 in (low, omega (arith, high))
limit_is Two limit h = h

-- Two places of one unit are one.
same_place : OnePlace → (ns : Namespace) (unit : ℕ) (a b : Place) → IsUnitPlace ns unit a → IsUnitPlace ns unit b → (op : Operation)
    → IsCovered a op → IsCovered b op
same_place one ns unit a b first second op covered =
    let both = one ns unit a.first a.blocks b.first b.blocks first.lbas second.lbas in
    let size : a.size ≡ b.size = first.size ∙ sym second.size in
    let p1 : IsCovered (place_at b.first a.blocks a.size) op = subst (λ (n : ℕ). IsCovered (place_at n a.blocks a.size) op) both.0 covered in
    let p2 : IsCovered (place_at b.first b.blocks a.size) op = subst (λ (n : ℕ). IsCovered (place_at b.first n a.size) op) both.1 p1 in
    subst (λ (n : ℕ). IsCovered (place_at b.first b.blocks n) op) size p2

-- A part that is in the shape of a job's outcome is one of the job.
pub has_part : HasPart → ShapesByPlan → (ns : Namespace) (job : Job) (d : RecordedJob) → HasOutcomeShape ns job d.parts d.statuses d.payload
    → ((refusal : Statuses) → refusal_of ns job ≡ Some refusal → d.parts ≡ [])
    → ((refusal_of ns job ≡ None) → (op : Operation) × (job_operation_of ns job ≡ Some op))
    → (i : ℕ) (part : Part) → IsAt d.parts i part → IsSome (job_part_in ns job part.unit)
has_part have shapes ns job d shape none some i part at = by (refusal_of ns job) refl
  where
    by : (refusal : Option Statuses) → refusal_of ns job ≡ refusal → IsSome (job_part_in ns job part.unit)
    by (Some refusal) e = absurd (none_stands i part (subst (λ (ps : List Part). IsAt ps i part) (none refusal e) at))
    by None e =
        let op = some e in
        let its = part_of_shape ns op.0 d.parts d.statuses d.payload ((shapes ns job op.0 d.parts d.statuses d.payload e op.1).0 shape) i part at in
        subst (λ (o : Option Operation). IsSome o) (sym (have ns job op.0 part.unit e op.1 its.met)) refl

is_some_operation : (o : Option Operation) → IsSome o → (op : Operation) × (o ≡ Some op)
is_some_operation None h = absurd (true≢false (sym h))
is_some_operation (Some op) h = (op, refl)

abbrev pub HasOperation : Type 0
HasOperation = (ns : Namespace) (job : Job) → refusal_of ns job ≡ None → IsSome (job_operation_of ns job)

abbrev pub ShapesOfRefused : Type 0
ShapesOfRefused =
    (ns : Namespace) (job : Job) (refusal : Statuses) (parts : List Part) (told : Statuses) (read : Option (List ℕ))
    → refusal_of ns job ≡ Some refusal → HasOutcomeShape ns job parts told read ↔ HasShapeOfRefusal refusal parts told read

module _ (one : OnePlace) (have : HasPart) (shapes : ShapesByPlan) (refused : ShapesOfRefused) (does : HasOperation) (r : RecordView)
    (held : IsRecordable r) (shaped : HaveShapes r) where
  known_part : (unit : ℕ) (history : List HistoryEntry) (k : ℕ) (p : RecordedPart) → IsAt (parts_in_unit unit r.done) k p
      → IsKnownPart (view_of_unit r unit history) p
  known_part unit history k p at =
      let from = comes_from unit r.done k p at in
      let work = all_at (IsRecordableWork r) r.done held.done p.worker from.0.work from.0.worker in
      let done = all_at (IsRecordableDone r) from.0.work work.each from.0.job.0 p.done from.0.job.1 in
      let shape = shaped p.worker from.0.work from.0.job.0 p.done from.0.worker from.0.job.1 in
      let same = one_there r.jobs p.done.job done.job shape.job done.its shape.its in
      let low = below r.done p.worker from.0.work from.0.worker in
      let all = held.all_workers in
      let few = held.few_workers in
      record {
        worker = omega (arith, low, all, few);
        unit = from.1;
        job = shape.job;
        its = shape.its;
        there =
            has_part have shapes r.namespace shape.job p.done shape.shape
            (λ refusal e. ((refused r.namespace shape.job refusal p.done.parts p.done.statuses p.done.payload e).0 shape.shape).none_done)
            (λ e. is_some_operation (job_operation_of r.namespace shape.job) (does r.namespace shape.job e))
            from.0.part.0 p.part from.0.part.1;
        whole = λ bytes e. subst (λ (j : Job). IsLongAsRead r.namespace j bytes) same (done.payload bytes e);
      }

  pub known_unit : (unit : ℕ) (history : List HistoryEntry) → IsAt r.units unit history → IsKnownUnit (view_of_unit r unit history)
  known_unit unit history at =
      let its = held.units unit history at in
      record {
        valid = held.namespace;
        inside = subst (λ (n : ℕ). unit < n) held.all_units (below r.units unit history at);
        fits = λ number job stands. (all_at (IsRecordableJob r) r.jobs held.jobs number job stands).fits;
        limit = limit_is r.version r.limit held.limit;
        few = its.few;
        entries = λ i entry stands.
            let known = all_at (IsRecordableEntry r its.place) history its.each i entry stands in
            record {
              job = known.job;
              act = known.act;
              covered = λ place lies. same_place one r.namespace unit its.place place its.lies lies entry.operation known.covered;
            };
        parts = λ k p stands. known_part unit history k p stands;
      }
