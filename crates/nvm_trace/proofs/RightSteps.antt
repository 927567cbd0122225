-- A part of a lawful record that is a step has its reply at its point, and leaves the next point or the same.
use Rattle.std.proofs.Common.{◌≡◌, ◌⊎◌, ◌↔◌, ℕ, zero, suc, ◌+◌, ◌<◌, ◌≤◌, List, [], ◌∷◌, ◌++◌, length, length-append, map, cond, Bool, true, false, Option, Some, None, IsTrue, refl, sym, ap, subst, ◌∙◌, inl, inr, arith}
use Rattle.std.proofs.lemmas.Bool.{cases_Bool}
use Rattle.std.proofs.lemmas.Option.{none-some, same_Some, cond_some}
use Rattle.std.specs.List.{AllByRecursion}
use mathlib.Core.Option.{some-injective}
use Rattle.nvm_record.specs.declared.status.Statuses.{Statuses}
use Rattle.nvm_record.specs.declared.status.Statuses.TheVariants.{One, Two}
use Rattle.nvm_record.specs.Deeds.{is_look, is_pair, IsLook, IsPair, IsFailedPair, success_of}
use Rattle.nvm_record.specs.Lists.{IsAt}
use Rattle.nvm_record.specs.Medium.{Medium}
use Rattle.nvm_record.specs.Status.{successful_completion}
use Rattle.nvm_record.specs.Step.{Operation, statuses_of, medium_after}
use Rattle.nvm_geometry.specs.Boundaries.{unit_number}
use Rattle.nvm_geometry.specs.Namespace.{Namespace}
use Rattle.nvm_geometry.specs.Parts.{meets, units_met, part_in}
use Rattle.nvm_plan.specs.declared.job.Job.{Job}
use Rattle.nvm_plan.specs.declared.part.Part.{Part}
use Rattle.nvm_plan.specs.declared.part.PartResult.{PartResult}
use Rattle.nvm_plan.specs.declared.part.PartResult.TheVariants.{Done, Failed, Looked, NoMemory, Full}
use Rattle.nvm_plan.specs.Checks.{refusal_of}
use Rattle.nvm_plan.specs.JobPart.{unless_refused, ready_operation, part_of_ready, job_part_in}
use Rattle.nvm_plan.specs.Operation.{job_operation_of}
use Rattle.nvm_plan.specs.Reply.{can_have}
use Rattle.nvm_plan.specs.Shape.{MayShow, EndsAtLast, HasShapeOf, HasOutcomeShape}
use Rattle.nvm_store.specs.HistoryEntry.{HistoryEntry}
use Rattle.nvm_store.specs.Point.{point}
use Rattle.nvm_audit.specs.LawfulRecord.{IsLawfulRecord}
use Rattle.nvm_audit.specs.LawfulUnit.{IsLawfulUnit}
use Rattle.nvm_audit.specs.PointOrder.{least_after}
use Rattle.nvm_audit.specs.RecordedPart.{RecordedPart, parts_in_unit, told_of_part, told_of}
use Rattle.nvm_audit.specs.RecordView.{RecordView}
use Rattle.nvm_audit.specs.Resting.{HasRightStatus, IsRightAtItsPoint}
use Rattle.nvm_trace.specs.Linearization.{is_step}
use Rattle.nvm_trace.proofs.Places.{none_stands, one_there}
use Rattle.nvm_trace.proofs.UnitParts.{EndsAt, parts_come}
use Rattle.nvm_trace.proofs.Walk.{made_by, point_after, IsRight}

-- What the laws below say that are used here.
abbrev pub LooksLeave : Type 0
LooksLeave =
    (size : ℕ) (op : Operation) (m : Medium) (lba : ℕ) → IsLook op.deed ⊎ IsFailedPair op m → medium_after size op m lba ≡ m lba

abbrev pub HasNextPoint : Type 0
HasNextPoint =
    (size : ℕ) (history : List HistoryEntry) (n : ℕ) (entry : HistoryEntry) → IsAt history n entry
    → point size history (n + 1) ≡ medium_after size entry.operation (point size history n)

abbrev pub KeepsLooks : Type 0
KeepsLooks = (ns : Namespace) (op : Operation) (unit : ℕ) → is_look (part_in ns op unit).deed ≡ is_look op.deed

abbrev pub KeepsPairs : Type 0
KeepsPairs = (ns : Namespace) (op : Operation) (unit : ℕ) → is_pair (part_in ns op unit).deed ≡ is_pair op.deed

abbrev pub PairsMeetOne : Type 0
PairsMeetOne =
    (ns : Namespace) (job : Job) (op : Operation) → refusal_of ns job ≡ None → job_operation_of ns job ≡ Some op → IsPair op.deed
    → units_met ns op ≡ unit_number ns op.first ∷ []

abbrev pub ShapesByPlan : Type 0
ShapesByPlan =
    (ns : Namespace) (job : Job) (op : Operation) (parts : List Part) (told : Statuses) (read : Option (List ℕ))
    → refusal_of ns job ≡ None → job_operation_of ns job ≡ Some op
    → HasOutcomeShape ns job parts told read ↔ HasShapeOf ns op parts told read

pub record Laws : Type 0 where
  pub looks : LooksLeave
  pub next : HasNextPoint
  pub look : KeepsLooks
  pub pair : KeepsPairs
  pub one_unit : PairsMeetOne
  pub shapes : ShapesByPlan

all_here : {A : Type 0} (P : A → Type 0) (xs : List A) → AllByRecursion P xs → (i : ℕ) (x : A) → IsAt xs i x → P x
all_here P [] all i x at = absurd (none_stands i x at)
all_here P (y ∷ ys) all zero x at = subst P (some-injective y x at) all.0
all_here P (y ∷ ys) all (suc i) x at = all_here P ys all.1 i x at

at_last : {A : Type 0} (before : List A) (last : A) (i : ℕ) (x : A) → IsAt (before ++ last ∷ []) i x
    → length (before ++ last ∷ []) ≡ i + 1 → last ≡ x
at_last [] last zero x at long = some-injective last x at
at_last [] last (suc i) x at long = absurd (none_stands i x at)
at_last (y ∷ ys) last zero x at long =
    let l : length (ys ++ last ∷ []) ≡ length ys + 1 = length-append ys (last ∷ []) in absurd (omega (arith, long, l))
at_last (y ∷ ys) last (suc i) x at long = at_last ys last i x at (omega (arith, long))

length_mapped : {A B : Type 0} (f : A → B) (xs : List A) → length (map f xs) ≡ length xs
length_mapped f [] = refl
length_mapped f (x ∷ xs) = let e = length_mapped f xs in omega (arith, e)

by_refusal : (refusal : Option Statuses) (stands : Option Operation) (op : Operation) → unless_refused refusal stands ≡ Some op
    → (refusal ≡ None) × (stands ≡ Some op)
by_refusal None stands op e = (refl, e)
by_refusal (Some statuses) stands op e = absurd (none-some op e)

-- the part of a job that has this operation
part_ready : (ns : Namespace) (ready : Option Operation) (op part : Operation) (unit : ℕ) → ready ≡ Some op
    → part_of_ready ns ready unit ≡ Some part → part ≡ part_in ns op unit
part_ready ns None op part unit is e = absurd (none-some op is)
part_ready ns (Some other) op part unit is e =
    sym (cond_some (meets ns other unit) (part_in ns other unit) part e).1
    ∙ ap (λ (o : Operation). part_in ns o unit) (same_Some other op is)

-- The operation has a part at this place, and the statuses are decided by the last.
ended : (ns : Namespace) (op : Operation) (parts : List Part) (told : Statuses) (read : Option (List ℕ)) → HasShapeOf ns op parts told read
    → (i : ℕ) (part : Part) → IsAt parts i part → EndsAtLast ns op parts told
ended ns op parts told read shape i part at = elim shape.ending [
  | inl unmet ↦ absurd (none_stands i part (subst (λ (l : List Part). IsAt l i part) unmet.none_done at))
  | inr rest ↦ elim rest [
    | inl unstarted ↦ absurd (none_stands i part (subst (λ (l : List Part). IsAt l i part) unstarted.none_done at))
    | inr last ↦ last
  ]
]

-- what is answered for success, of a pair or else
abbrev success_for : Bool → Statuses
success_for b = cond b (Two successful_completion successful_completion) (One successful_completion)

-- What was answered for a part that was done is success.
told_success : (ns : Namespace) (op : Operation) (parts : List Part) (told : Statuses)
    → (IsPair op.deed → units_met ns op ≡ unit_number ns op.first ∷ []) → EndsAtLast ns op parts told
    → (i : ℕ) (part : Part) → IsAt parts i part → part.result ≡ Done → (b : Bool) → EndsAt b i (length parts)
    → told_of_part b told ≡ success_of op.deed
told_success ns op parts told one e i part at done true ends =
    let last = at_last e.before e.last i part (subst (λ (l : List Part). IsAt l i part) e.are at) (ap length (sym e.are) ∙ ends) in
    subst (λ (r : PartResult). MayShow op.deed r told) (ap (λ (q : Part). q.result) last ∙ done) e.statuses
told_success ns op parts told one e i part at done false ends = elim (cases_Bool (is_pair op.deed)) [
  | inl pair ↦
      let whole : map (λ (q : Part). q.unit) parts ++ e.left ≡ unit_number ns op.first ∷ [] =
      e.units ∙ one (subst (λ (b : Bool). IsTrue b) (sym pair) refl) in
      let long : length (map (λ (q : Part). q.unit) parts ++ e.left) ≡ 1 = ap length whole in
      let sum = length-append (map (λ (q : Part). q.unit) parts) e.left in
      let mapped = length_mapped (λ (q : Part). q.unit) parts in
      absurd (omega (arith, ends, long, sum, mapped))
  | inr single ↦ sym (ap success_for single)
]

is_done : (result : PartResult) → made_by result ≡ true → result ≡ Done
is_done Done is = refl
is_done Failed is = absurd (cc is)
is_done Looked is = absurd (cc is)
is_done NoMemory is = absurd (cc is)
is_done Full is = absurd (cc is)

-- what was answered for a part is what the step gives
told_at : (size limit : ℕ) (history : List HistoryEntry) (op : Operation) (p : RecordedPart) (result : PartResult)
    → is_step result ≡ true → HasRightStatus size limit history op p result → (result ≡ Done → told_of p ≡ success_of op.deed)
    → told_of p ≡ statuses_of op (point size history p.part.point)
told_at size limit history op p Done is right told = told refl ∙ right
told_at size limit history op p Failed is right told = right.1
told_at size limit history op p Looked is right told = right
told_at size limit history op p NoMemory is right told = absurd (cc is)
told_at size limit history op p Full is right told = absurd (cc is)

module _ (laws : Laws) where
  -- A part without an entry leaves the medium as it is.
  left_at : (ns : Namespace) (limit : ℕ) (history : List HistoryEntry) (whole : Operation) (p : RecordedPart) (result : PartResult)
      → is_step result ≡ true → HasRightStatus ns.block_size limit history (part_in ns whole p.part.unit) p result
      → IsTrue (can_have whole.deed result)
      → (result ≡ Done → medium_after ns.block_size (part_in ns whole p.part.unit) (point ns.block_size history p.part.point)
      ≡ point ns.block_size history (p.part.point + 1))
      → medium_after ns.block_size (part_in ns whole p.part.unit) (point ns.block_size history p.part.point)
      ≡ point ns.block_size history (point_after (made_by result) p.part.point)
  left_at ns limit history whole p Done is right can next = next refl
  left_at ns limit history whole p Failed is right can next =
      λ i lba.
      laws.looks ns.block_size (part_in ns whole p.part.unit) (point ns.block_size history p.part.point) lba (inr right.0) i
  left_at ns limit history whole p Looked is right can next =
      λ i lba.
      laws.looks ns.block_size (part_in ns whole p.part.unit) (point ns.block_size history p.part.point) lba
      (inl (subst (λ (b : Bool). IsTrue b) (sym (laws.look ns whole p.part.unit)) can)) i
  left_at ns limit history whole p NoMemory is right can next = absurd (cc is)
  left_at ns limit history whole p Full is right can next = absurd (cc is)

  module _ (r : RecordView) (lawful : IsLawfulRecord r) (unit : ℕ) (history : List HistoryEntry) (there : IsAt r.units unit history) where
    abbrev its : IsLawfulUnit r.namespace r.limit r.jobs unit history (parts_in_unit unit r.done)
    its = lawful.units unit history there

    abbrev pub rests_there : (k : ℕ) (p : RecordedPart) → IsAt (parts_in_unit unit r.done) k p
        → IsRightAtItsPoint r.namespace r.limit r.jobs history p
    rests_there k p at = its.rests k p at

    -- The part of a job that was done is its entry.
    entry_left : (k : ℕ) (p : RecordedPart) (whole : Operation) (job : Job) → IsAt (parts_in_unit unit r.done) k p
        → IsAt r.jobs p.done.job job → ready_operation r.namespace job ≡ Some whole → p.part.unit ≡ unit → p.part.result ≡ Done
        → medium_after r.namespace.block_size (part_in r.namespace whole p.part.unit) (point r.namespace.block_size history p.part.point)
        ≡ point r.namespace.block_size history (p.part.point + 1)
    entry_left k p whole job at job_is ready unit_is done =
        let made = its.made k p at done in
        let entry = made.0 in
        let of = its.entries p.part.point entry made.1 in
        let same : of.job ≡ job = one_there r.jobs p.done.job of.job job
        (subst (λ (n : ℕ). IsAt r.jobs n of.job) made.2.job of.its) job_is in
        let part : job_part_in r.namespace job unit ≡ Some entry.operation =
        subst (λ (j : Job). job_part_in r.namespace j unit ≡ Some entry.operation) same of.part in
        let is : entry.operation ≡ part_in r.namespace whole p.part.unit =
        part_ready r.namespace (ready_operation r.namespace job) whole entry.operation unit ready part
        ∙ ap (part_in r.namespace whole) (sym unit_is) in
        ap (λ (o : Operation). medium_after r.namespace.block_size o (point r.namespace.block_size history p.part.point)) (sym is)
        ∙ sym (laws.next r.namespace.block_size history p.part.point entry made.1)

    pub right : (k : ℕ) (p : RecordedPart) (at : IsAt (parts_in_unit unit r.done) k p) → is_step p.part.result ≡ true → (moment : ℕ)
        → IsRight r.namespace history (record { part = p; whole = (rests_there k p at).whole; moment = moment })
    right k p at is moment =
        let rests = its.rests k p at in
        let ns = r.namespace in
        let whole = rests.whole in
        let op = part_in ns whole p.part.unit in
        let come = parts_come unit r.done k p at in
        let from = come.0.shown in
        let shown = lawful.shapes from.worker from.work from.k p.done from.by from.there in
        let same : shown.job ≡ rests.does.job = one_there r.jobs p.done.job shown.job rests.does.job shown.its rests.does.its in
        let free = by_refusal (refusal_of ns rests.does.job) (job_operation_of ns rests.does.job) whole rests.does.ready in
        let shape = (laws.shapes ns rests.does.job whole p.done.parts p.done.statuses p.done.payload free.0 free.1).0
        (subst (λ (j : Job). HasOutcomeShape ns j p.done.parts p.done.statuses p.done.payload) same shown.shape) in
        let ends = ended ns whole p.done.parts p.done.statuses p.done.payload shape from.i p.part from.its in
        let can = all_here (λ (q : Part). IsTrue (can_have whole.deed q.result)) p.done.parts ends.results from.i p.part from.its in
        let kind : success_of whole.deed ≡ success_of op.deed =
        ap success_for (sym (laws.pair ns whole p.part.unit)) in
        record {
          within = rests.within;
          reply = record {
            statuses =
                told_at ns.block_size r.limit history op p p.part.result is rests.status
                (λ done.
                told_success ns whole p.done.parts p.done.statuses (laws.one_unit ns rests.does.job whole free.0 free.1) ends from.i p.part
                from.its done p.is_last come.0.ends
                ∙ kind);
            payload = rests.payload;
          };
          leaves =
              left_at ns r.limit history whole p p.part.result is rests.status can
              (λ done. entry_left k p whole rests.does.job at rests.does.its rests.does.ready come.1 done);
        }

    -- No two parts made one entry.
    pub made_apart : (i j : ℕ) (p q : RecordedPart) → IsAt (parts_in_unit unit r.done) i p → IsAt (parts_in_unit unit r.done) j q → i < j
        → made_by p.part.result ≡ true → made_by q.part.result ≡ true → ¬ (p.part.point ≡ q.part.point)
    made_apart i j p q at also low first second same =
        let made = its.made i p at (is_done p.part.result first) in
        let more = its.made j q also (is_done q.part.result second) in
        let entry : made.0 ≡ more.0 = one_there history p.part.point made.0 more.0 made.1
        (subst (λ (n : ℕ). IsAt history n more.0) (sym same) more.1) in
        let worker : q.worker ≡ p.worker =
        sym more.2.worker ∙ ap (λ (e : HistoryEntry). e.pass) (sym entry) ∙ made.2.worker in
        let above : p.part.point + 1 ≤ q.part.point =
        subst (λ (result : PartResult). least_after p.part result ≤ q.part.point) (is_done p.part.result first)
        (its.order i j p q at also low worker) in
        omega (arith, above, same)

    -- Each entry was made by a part.
    pub each_made : (k : ℕ) (entry : HistoryEntry) → IsAt history k entry
        → (i : ℕ) × (p : RecordedPart) × IsAt (parts_in_unit unit r.done) i p × (p.part.result ≡ Done) × (p.part.point ≡ k)
    each_made k entry at =
        let claimed = its.claimed k entry at in
        (claimed.0, claimed.1, claimed.2, claimed.3.result, claimed.3.point)
