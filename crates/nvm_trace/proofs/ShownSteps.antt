-- The steps that a lawful record shows, and the parts that name their units.
use Rattle.std.proofs.Common.{◌≡◌, ℕ, zero, suc, ◌+◌, ◌*◌, ◌<◌, ◌≤◌, nat_eq, List, [], ◌∷◌, All, Bool, true, false, Contains, Option, Some, None, get_or, length, refl, sym, ap, subst, ◌∙◌, arith}
use Rattle.std.proofs.lemmas.Bool.{eq-eqb}
use Rattle.std.proofs.lemmas.List.Elements.{Contains-append_left, Contains-append_right, Contains-get_or, All-contains}
use Rattle.std.proofs.lemmas.Option.{slice_get_within, get_or_from_slice_get}
use Rattle.std.specs.Prelude.{IfSome, slice_get}
use mathlib.Core.Option.{some-injective}
use Rattle.nvm_record.specs.Lists.{IsAt}
use Rattle.nvm_geometry.specs.Boundaries.{units_of}
use Rattle.nvm_plan.specs.declared.part.Part.{Part}
use Rattle.nvm_plan.specs.declared.part.PartResult.{PartResult}
use Rattle.nvm_plan.specs.declared.part.PartResult.TheVariants.{Done, Failed, Looked, NoMemory, Full}
use Rattle.nvm_store.specs.HistoryEntry.{HistoryEntry}
use Rattle.nvm_audit.specs.LawfulRecord.{IsLawfulRecord}
use Rattle.nvm_audit.specs.Recordable.{IsRecordable, IsRecordableDone, IsRecordableWork}
use Rattle.nvm_audit.specs.RecordedJob.{RecordedJob}
use Rattle.nvm_audit.specs.RecordedPart.{RecordedPart, recorded_part, parts_left, parts_of_work, parts_of_workers, parts_in_unit}
use Rattle.nvm_audit.specs.RecordView.{RecordView}
use Rattle.nvm_trace.specs.declared.step.Step.{Step}
use Rattle.nvm_trace.specs.declared.step.Times.{Times}
use Rattle.nvm_trace.specs.declared.traced_job.Ending.{Ending}
use Rattle.nvm_trace.specs.declared.traced_job.TracedJob.{TracedJob}
use Rattle.nvm_trace.specs.Inside.Table.{HasPlace}
use Rattle.nvm_trace.specs.Order.{level_of}
use Rattle.nvm_trace.specs.Steps.{end_of, times_in, times_of, step_of, steps_by, steps_of_part, steps_of_job, steps_of_work, steps_of}
use Rattle.nvm_trace.specs.Timely.{HadEnded}
use Rattle.nvm_trace.proofs.Places.{none_stands, below, contained, placed, some_there, in_filter, out_of_flat, into_flat}

-- The record shows this part of this done job.
pub record IsShownPart (done : List (List RecordedJob)) (d : RecordedJob) (part : Part) : Type 0 where
  pub worker : ℕ
  pub work : List RecordedJob
  pub by : IsAt done worker work
  pub k : ℕ
  pub there : IsAt work k d
  pub i : ℕ
  pub its : IsAt d.parts i part

only : {A : Type 0} (t s : A) → Contains (t ∷ []) s → t ≡ s
only t s has = go has.0 has.1 has.2
  where
    go : (k : ℕ) → k < 1 → get_or (t ∷ []) k s ≡ s → t ≡ s
    go zero low is = is
    go (suc k) low is = absurd (omega (arith, low))

-- The step is one of this part.
pub record IsStepOf (traced : List TracedJob) (done : List (List RecordedJob)) (s : Step) : Type 0 where
  pub d : RecordedJob
  pub part : Part
  pub shown : IsShownPart done d part
  pub is : Contains (steps_of_part (times_of traced d.job) d.job part) s

pub step_shown : (traced : List TracedJob) (done : List (List RecordedJob)) (s : Step) → Contains (steps_of traced done) s → IsStepOf traced done s
step_shown traced done s has =
    let a = out_of_flat (steps_of_work traced) done s has in
    let b = out_of_flat (steps_of_job traced) a.1 s a.3 in
    let c = out_of_flat (steps_of_part (times_of traced b.1.job) b.1.job) b.1.parts s b.3 in
    record {
      d = b.1;
      part = c.1;
      shown = record { worker = a.0; work = a.1; by = a.2; k = b.0; there = b.2; i = c.0; its = c.2 };
      is = c.3;
    }

-- A part that names its unit, among those of the record.
pub record IsNamed (done : List (List RecordedJob)) (d : RecordedJob) (part : Part) (unit : ℕ) : Type 0 where
  pub p : RecordedPart
  pub job_is : p.done ≡ d
  pub part_is : p.part ≡ part
  pub k : ℕ
  pub at : IsAt (parts_in_unit unit done) k p

module _ (worker : ℕ) (d : RecordedJob) where
  left_has : (parts : List Part) (i : ℕ) (part : Part) → IsAt parts i part
      → (last : Bool) × Contains (parts_left worker d parts) (recorded_part worker d part last)
  left_has [] i part e = absurd (none_stands i part e)
  left_has (q ∷ []) zero part e =
      (true, subst (λ (x : Part). Contains (parts_left worker d (q ∷ [])) (recorded_part worker d x true)) (some-injective q part e) (contained (parts_left worker d (q ∷ [])) 0 (recorded_part worker d q true) refl))
  left_has (q ∷ []) (suc i) part e = absurd (none_stands i part e)
  left_has (q ∷ next ∷ parts) zero part e =
      (false, subst (λ (x : Part). Contains (parts_left worker d (q ∷ next ∷ parts)) (recorded_part worker d x false)) (some-injective q part e) (contained (parts_left worker d (q ∷ next ∷ parts)) 0 (recorded_part worker d q false) refl))
  left_has (q ∷ next ∷ parts) (suc i) part e =
      let rest = left_has (next ∷ parts) i part e in
      (rest.0, Contains-append_right (recorded_part worker d q false ∷ []) (parts_left worker d (next ∷ parts)) (recorded_part worker d part rest.0) rest.1)

workers_have : (first : ℕ) (done : List (List RecordedJob)) (worker : ℕ) (work : List RecordedJob) (k : ℕ) (d : RecordedJob) (i : ℕ) (part : Part)
    → IsAt done worker work → IsAt work k d → IsAt d.parts i part
    → (p : RecordedPart) × (p.done ≡ d) × (p.part ≡ part) × Contains (parts_of_workers first done) p
workers_have first [] worker work k d i part by there its = absurd (none_stands worker work by)
workers_have first (w ∷ ws) zero work k d i part by there its =
    let there' = subst (λ (v : List RecordedJob). IsAt v k d) (sym (some-injective w work by)) there in
    let left = left_has first d d.parts i part its in (
      recorded_part first d part left.0,
      refl,
      refl,
      Contains-append_left (parts_of_work first w) (parts_of_workers (first + 1) ws) (recorded_part first d part left.0)
          (into_flat (λ (e : RecordedJob). parts_left first e e.parts) w k d (recorded_part first d part left.0) there' left.1),
    )
workers_have first (w ∷ ws) (suc worker) work k d i part by there its =
    let rest = workers_have (first + 1) ws worker work k d i part by there its in
    (rest.0, rest.1, rest.2, Contains-append_right (parts_of_work first w) (parts_of_workers (first + 1) ws) rest.0 rest.3)

pub part_named : (done : List (List RecordedJob)) (d : RecordedJob) (part : Part) → IsShownPart done d part → IsNamed done d part part.unit
part_named done d part shown =
    let has = workers_have 0 done shown.worker shown.work shown.k d shown.i part shown.by shown.there shown.its in
    let at = placed (parts_of_workers 0 done) has.0 has.3 in
    let kept = in_filter (λ (p : RecordedPart). nat_eq p.part.unit part.unit) (parts_of_workers 0 done) at.0 has.0 at.1
    (eq-eqb has.0.part.unit part.unit (ap (λ (q : Part). q.unit) has.2)) in
    record { p = has.0; job_is = has.1; part_is = has.2; k = kept.0; at = kept.1 }

module _ (r : RecordView) (held : IsRecordable r) (lawful : IsLawfulRecord r) where
  -- The unit of a part has a history.
  part_unit : (d : RecordedJob) (part : Part) → IsShownPart r.done d part → part.unit < length r.units
  part_unit d part shown =
      let work = All-contains (IsRecordableWork r) r.done shown.work held.done (contained r.done shown.worker shown.work shown.by) in
      let done = All-contains (IsRecordableDone r) shown.work d work.each (contained shown.work shown.k d shown.there) in
      let low = All-contains (λ (q : Part). q.unit < units_of r.namespace) d.parts part done.units (contained d.parts shown.i part shown.its) in
      let all = held.all_units in
      omega (arith, low, all)

  point_within : (d : RecordedJob) (part : Part) → IsShownPart r.done d part → (history : List HistoryEntry)
      → IsAt r.units part.unit history → (part.point ≤ length history) × (part.result ≡ Done → part.point < length history)
  point_within d part shown history there =
      let named = part_named r.done d part shown in
      let unit = lawful.units part.unit history there in
      let p = named.p in
      let rests = unit.rests named.k p named.at in
      let point : p.part.point ≡ part.point = ap (λ (q : Part). q.point) named.part_is in
      let within = rests.within in (
        omega (arith, within, point),
        λ done.
            let made = unit.made named.k p named.at (ap (λ (q : Part). q.result) named.part_is ∙ done) in
            let low = below history p.part.point made.0 made.1 in
            omega (arith, low, point),
      )

  one_place : (t s : Step) (history : List HistoryEntry) → IsAt r.units t.unit history → level_of t ≤ 2 * length history
      → Contains (t ∷ []) s → HasPlace r.units s
  one_place t s history there within has =
      subst (λ (u : Step). HasPlace r.units u) (only t s has) (record { history = history; there = there; within = within })

  place_by : (times : Times) (job : ℕ) (part : Part) (result : PartResult) (history : List HistoryEntry) (s : Step)
      → IsAt r.units part.unit history → part.point ≤ length history → (result ≡ Done → part.point < length history)
      → Contains (steps_by times job part result) s → HasPlace r.units s
  place_by times job part Done history s there within made has =
      let low = made refl in one_place (step_of times job part true) s history there (omega (arith, low)) has
  place_by times job part Failed history s there within made has =
      one_place (step_of times job part false) s history there (omega (arith, within)) has
  place_by times job part Looked history s there within made has =
      one_place (step_of times job part false) s history there (omega (arith, within)) has
  place_by times job part NoMemory history s there within made has = let low = has.1 in absurd (omega (arith, low))
  place_by times job part Full history s there within made has = let low = has.1 in absurd (omega (arith, low))

  -- Each step has a place in its unit's history.
  pub steps_have_places : (traced : List TracedJob) (steps : List Step) → steps ≡ steps_of traced r.done → All (HasPlace r.units) steps
  steps_have_places traced steps are = λ k e low.
      let s = get_or steps k e in
      let of = step_shown traced r.done s (subst (λ (ss : List Step). Contains ss s) are (Contains-get_or steps k e low)) in
      let history = some_there r.units of.part.unit (part_unit of.d of.part of.shown) in
      let within = point_within of.d of.part of.shown history.0 history.1 in
      place_by (times_of traced of.d.job) of.d.job of.part of.part.result history.0 s history.1 within.0 within.1 of.is

-- No step's command ended before it began.
module _ (traced : List TracedJob) (sound : (j : TracedJob) → Contains traced j → IfSome j.ended (λ e. j.began ≤ e.time)) where
  times_end : (o : Option TracedJob) → ((j : TracedJob) → o ≡ Some j → Contains traced j)
      → ¬ (HadEnded (times_in o).ended (times_in o).began)
  times_end None among had = omega (arith, had)
  times_end (Some j) among had = by j.ended (sound j (among j refl)) had
    where
      by : (o : Option Ending) → IfSome o (λ e. j.began ≤ e.time) → ¬ (HadEnded (end_of o) j.began)
      by None le had = had
      by (Some e) le had = omega (arith, le, had)

  step_ends : (times : Times) → ¬ (HadEnded times.ended times.began) → (job : ℕ) (part : Part) (result : PartResult) (s : Step)
      → Contains (steps_by times job part result) s → ¬ (HadEnded s.ended s.began)
  step_ends times ends job part Done s has =
      subst (λ (u : Step). ¬ (HadEnded u.ended u.began)) (only (step_of times job part true) s has) ends
  step_ends times ends job part Failed s has =
      subst (λ (u : Step). ¬ (HadEnded u.ended u.began)) (only (step_of times job part false) s has) ends
  step_ends times ends job part Looked s has =
      subst (λ (u : Step). ¬ (HadEnded u.ended u.began)) (only (step_of times job part false) s has) ends
  step_ends times ends job part NoMemory s has = let low = has.1 in absurd (omega (arith, low))
  step_ends times ends job part Full s has = let low = has.1 in absurd (omega (arith, low))

  pub steps_end : (done : List (List RecordedJob)) (s : Step) → Contains (steps_of traced done) s → ¬ (HadEnded s.ended s.began)
  steps_end done s has =
      let of = step_shown traced done s has in
      step_ends (times_of traced of.d.job)
      (times_end (slice_get traced of.d.job)
      (λ j is. (of.d.job, slice_get_within traced of.d.job j is, get_or_from_slice_get traced of.d.job j j is)))
      of.d.job of.part of.part.result s of.is
