-- What is found of a part on the blocks at its point, as what the unit's checks ask.
use Rattle.std.proofs.Common.{◌≡◌, ◌≢◌, ℕ, ◌+◌, ◌<◌, ◌≤◌, List, length, set, get_or, Option, Some, None, IsSome, refl, sym, ap, subst, ◌∙◌, arith, inl, inr, length-set}
use Rattle.std.proofs.lemmas.Bool.{cases_lt}
use mathlib.Core.Bool.{true≢false}
use Rattle.nvm_record.specs.Lists.{IsAt}
use Rattle.nvm_record.specs.Medium.{Medium}
use Rattle.nvm_record.specs.Step.{Operation}
use Rattle.nvm_geometry.specs.Namespace.{Namespace}
use Rattle.nvm_geometry.specs.Parts.{part_in}
use Rattle.nvm_plan.specs.declared.job.Job.{Job}
use Rattle.nvm_plan.specs.declared.part.PartResult.{PartResult}
use Rattle.nvm_plan.specs.declared.part.PartResult.TheVariants.{Done, Failed, Looked, NoMemory, Full}
use Rattle.nvm_plan.specs.Fits.{FitsNamespace}
use Rattle.nvm_plan.specs.JobPart.{ready_operation, part_of_ready, job_part_in}
use Rattle.nvm_store.specs.HistoryEntry.{HistoryEntry}
use Rattle.nvm_store.specs.Point.{point}
use Rattle.nvm_audit.specs.declared.judging.Finding.{Finding}
use Rattle.nvm_audit.specs.declared.judging.Finding.TheVariants.{Right, StatusWrong, DataWrong}
use Rattle.nvm_audit.specs.Inside.Audited.{IsKnownUnit, IsJudged, AreJudgedBelow, IsJudgedDownTo, IsLastAt, AreByPoint}
use Rattle.nvm_audit.specs.Inside.Judging.{EndsRight, IsFound}
use Rattle.nvm_audit.specs.Recordable.{IsLongAsRead}
use Rattle.nvm_audit.specs.RecordedPart.{RecordedPart}
use Rattle.nvm_audit.specs.Resting.{HasRightStatus, HasRightData}
use Rattle.nvm_audit.specs.UnitChecks.{HasItsStatus, HasItsData}
use Rattle.nvm_audit.specs.UnitView.{UnitView}
use Rattle.nvm_audit.proofs.Judged.{some_is}
use Rattle.nvm_audit.proofs.Places.{at_set, stands_read, get_or_there}
use Rattle.nvm_audit.proofs.Standing.{below, one_there}

module _ (size limit : ℕ) (history : List HistoryEntry) (op : Operation) (p : RecordedPart) where
  rests : (result : PartResult) → result ≢ Done → EndsRight limit op (point size history p.part.point) p result → HasRightStatus size limit history op p result
  rests Done other h = absurd (other refl)
  rests Failed other h = h
  rests Looked other h = h
  rests NoMemory other h = h
  rests Full other h = h

  ends_so : (result : PartResult) → HasRightStatus size limit history op p result → EndsRight limit op (point size history p.part.point) p result
  ends_so Done h = tt
  ends_so Failed h = h
  ends_so Looked h = h
  ends_so NoMemory h = h
  ends_so Full h = h

  done_ends : (m : Medium) (result : PartResult) → result ≡ Done → EndsRight limit op m p result
  done_ends m result is = subst (λ (r : PartResult). EndsRight limit op m p r) (sym is) tt

module _ (u : UnitView) (p : RecordedPart) (job : Job) (op : Operation) (its : IsAt u.jobs p.done.job job)
    (ready : ready_operation u.namespace job ≡ Some op) where
  same_whole : (other : Job) (whole : Operation) → IsAt u.jobs p.done.job other → ready_operation u.namespace other ≡ Some whole → whole ≡ op
  same_whole other whole at also =
      let same = one_there u.jobs p.done.job other job at its in
      some_is (sym also ∙ ap (λ (j : Job). ready_operation u.namespace j) same ∙ ready)

  gives_status : p.part.result ≢ Done
      → EndsRight u.limit (part_in u.namespace op p.part.unit) (point u.namespace.block_size u.history p.part.point) p p.part.result
      → HasItsStatus u p
  gives_status other h =
      record {
        whole = op;
        does = record { job = job; its = its; ready = ready };
        status = rests u.namespace.block_size u.limit u.history (part_in u.namespace op p.part.unit) p p.part.result other h;
      }

  needs_status : HasItsStatus u p
      → EndsRight u.limit (part_in u.namespace op p.part.unit) (point u.namespace.block_size u.history p.part.point) p p.part.result
  needs_status h =
      let same = same_whole h.does.job h.whole h.does.its h.does.ready in
      subst (λ (w : Operation). EndsRight u.limit (part_in u.namespace w p.part.unit) (point u.namespace.block_size u.history p.part.point) p p.part.result)
      same
      (ends_so u.namespace.block_size u.limit u.history (part_in u.namespace h.whole p.part.unit) p p.part.result h.status)

  gives_data : HasRightData u.namespace op (point u.namespace.block_size u.history p.part.point) p → HasItsData u p
  gives_data h = record { whole = op; does = record { job = job; its = its; ready = ready }; payload = h }

  needs_data : HasItsData u p → HasRightData u.namespace op (point u.namespace.block_size u.history p.part.point) p
  needs_data h =
      let same = same_whole h.does.job h.whole h.does.its h.does.ready in
      subst (λ (w : Operation). HasRightData u.namespace w (point u.namespace.block_size u.history p.part.point) p) same h.payload

  -- The finding of the part's job and blocks is that of the unit's checks.
  judged_by : (f : Finding)
      → IsFound f (EndsRight u.limit (part_in u.namespace op p.part.unit) (point u.namespace.block_size u.history p.part.point) p p.part.result)
      (HasRightData u.namespace op (point u.namespace.block_size u.history p.part.point) p)
      → IsJudged u p f
  judged_by Right h = (λ other. gives_status other h.0, gives_data h.1)
  judged_by StatusWrong h = (
    λ done. h (done_ends u.namespace.block_size u.limit u.history (part_in u.namespace op p.part.unit) p
        (point u.namespace.block_size u.history p.part.point) p.part.result done),
    λ s. h (needs_status s),
  )
  judged_by DataWrong h = (λ other. gives_status other h.0, λ d. h.1 (needs_data d))

-- A job that has a part does an operation.
does_some : (ns : Namespace) (o : Option Operation) (unit : ℕ) → IsSome (part_of_ready ns o unit) → (op : Operation) × (o ≡ Some op)
does_some ns None unit h = absurd (true≢false (sym h))
does_some ns (Some op) unit h = (op, refl)

-- the job that was read for a part
pub record IsReadJob (u : UnitView) (p : RecordedPart) (job : Job) : Type 0 where
  pub its : IsAt u.jobs p.done.job job
  pub fits : FitsNamespace u.namespace job
  pub there : IsSome (job_part_in u.namespace job p.part.unit)
  pub whole : (bytes : List ℕ) → p.done.payload ≡ Some bytes → IsLongAsRead u.namespace job bytes

module _ (u : UnitView) (known : IsKnownUnit u) (k : ℕ) (p : RecordedPart) (at : IsAt u.parts k p) where
  pub has_job : p.done.job < length u.jobs
  has_job = let part = known.parts k p at in below u.jobs p.done.job part.job part.its

  pub read_job : (n : ℕ) (job : Job) → n ≡ p.done.job → job ≡ get_or u.jobs n job → IsReadJob u p job
  read_job n job same read =
      let part = known.parts k p at in
      let its = stands_read u.jobs p.done.job job has_job (read ∙ ap (λ (i : ℕ). get_or u.jobs i job) same) in
      let is = one_there u.jobs p.done.job part.job job part.its its in
      record {
        its = its;
        fits = known.fits p.done.job job its;
        there = subst (λ (j : Job). IsSome (job_part_in u.namespace j p.part.unit)) is part.there;
        whole = λ bytes e. subst (λ (j : Job). IsLongAsRead u.namespace j bytes) is (part.whole bytes e);
      }

  pub found : (job : Job) (f : Finding) → IsReadJob u p job
      → ((op : Operation) → ready_operation u.namespace job ≡ Some op
      → IsFound f (EndsRight u.limit (part_in u.namespace op p.part.unit) (point u.namespace.block_size u.history p.part.point) p p.part.result)
      (HasRightData u.namespace op (point u.namespace.block_size u.history p.part.point) p))
      → IsJudged u p f
  found job f read tells =
      let whole = does_some u.namespace (ready_operation u.namespace job) p.part.unit read.there in
      judged_by u p job whole.0 read.its whole.1 f (tells whole.0 whole.1)

-- The parts at a point are judged from the last one on: at first none is.
pub judging_begins : (u : UnitView) (n at : ℕ) (findings : List Finding) → length findings ≡ length u.parts
    → AreJudgedBelow u n findings → IsLastAt u.parts n (length u.parts) at → IsJudgedDownTo u n at findings
judging_begins u n at findings long judged last =
    record {
      long = long;
      within = last.within;
      there = last.there;
      before = judged;
      done = λ k p f from stands here marked. absurd (last.last k p from (below u.parts k p stands) stands here);
    }

pub judging_goes_on : (u : UnitView) (n at k next : ℕ) (findings : List Finding) (f : Finding) → at ≡ k + 1 → IsJudgedDownTo u n at findings
    → ((p : RecordedPart) → IsAt u.parts k p → IsJudged u p f) → IsLastAt u.parts n k next
    → IsJudgedDownTo u n next (set findings k f)
judging_goes_on u n at k next findings f is old one last =
    let within = old.within in
    let room = last.within in
    record {
      long = length-set findings k f ∙ old.long;
      within = omega (arith, within, room, is);
      there = last.there;
      before = λ j p g stands low marked. elim (at_set findings k f j g marked) [
        | inl here ↦
            let same = old.there k p is (subst (λ (i : ℕ). IsAt u.parts i p) here.0 stands) in
            absurd (omega (arith, low, same))
        | inr there ↦ old.before j p g stands low there.1
      ];
      done = λ j p g from stands here marked. elim (at_set findings k f j g marked) [
        | inl put ↦ subst (λ (x : Finding). IsJudged u p x) (sym put.1) (one p (subst (λ (i : ℕ). IsAt u.parts i p) put.0 stands))
        | inr there ↦ elim (cases_lt j k) [
          | inl low ↦ absurd (last.last j p from low stands here)
          | inr high ↦ let apart = there.0 in old.done j p g (let h : j ≢ k = apart in omega (arith, high, is)) stands here there.1
        ]
      ];
    }

pub judging_ends : (u : UnitView) (n at : ℕ) (findings : List Finding) → at ≡ 0 → IsJudgedDownTo u n at findings
    → AreJudgedBelow u (n + 1) findings
judging_ends u n at findings none all = λ k p f stands low marked. elim (cases_lt p.part.point n) [
  | inl before ↦ all.before k p f stands before marked
  | inr high ↦ all.done k p f (omega (arith, none)) stands (omega (arith, low, high)) marked
]

-- what was read of the parts by point
pub last_of_point : (u : UnitView) (last before : List ℕ) → AreByPoint (length u.history) u.parts last before → (n at : ℕ)
    → n ≤ length u.history → at ≡ get_or last n at → IsLastAt u.parts n (length u.parts) at
last_of_point u last before by_point n at within read =
    let points = by_point.points in
    by_point.at_point n at (stands_read last n at (omega (arith, points, within)) read)

pub one_before : (u : UnitView) (n at k next : ℕ) (findings : List Finding) (last before : List ℕ)
    → AreByPoint (length u.history) u.parts last before → n ≤ length u.history → IsJudgedDownTo u n at findings → at ≡ k + 1
    → next ≡ get_or before k next → IsLastAt u.parts n k next
one_before u n at k next findings last before by_point within judging one read =
    let numbers = by_point.numbers in
    let room = judging.within in
    let low : k < length u.parts = omega (arith, room, one) in
    let p = get_or_there u.parts k low in
    let here = judging.there k p.0 one p.1 in
    subst (λ (i : ℕ). IsLastAt u.parts i k next) here
    (by_point.earlier k next p.0 (stands_read before k next (omega (arith, low, numbers)) read) p.1 (omega (arith, here, within)))
