-- A record of one act is lawful with its entry, and not without it.
use Rattle.std.proofs.Common.{◌≡◌, ◌↔◌, ℕ, ◌<◌, List, [], ◌∷◌, length, take, cond, Bool, true, false, not, nat_eq, Option, Some, None, IsTrue, Contains, get_or, refl, sym, ap, subst, ◌∙◌, inr, arith}
use Rattle.std.proofs.lemmas.Bool.Decides.{Decides-eqb}
use Rattle.std.proofs.lemmas.Option.{none-some}
use Rattle.nvm_record.specs.declared.status.Statuses.{Statuses}
use Rattle.nvm_record.specs.declared.status.Statuses.TheVariants.{One, Two}
use Rattle.nvm_record.specs.Deeds.{is_look, is_read, is_pair, IsAct, IsSingle, success_of}
use Rattle.nvm_record.specs.Lists.{IsAt}
use Rattle.nvm_record.specs.Medium.{Medium}
use Rattle.nvm_record.specs.Status.{IsSuccess, successful_completion}
use Rattle.nvm_record.specs.Step.{Deed, Operation, statuses_of, writes, zeroes, uncorrectable, reads, compares, pairs, deallocates}
use Rattle.nvm_geometry.specs.Boundaries.{units_of}
use Rattle.nvm_geometry.specs.Namespace.{Namespace}
use Rattle.nvm_geometry.specs.Parts.{units_met, part_in}
use Rattle.nvm_plan.specs.declared.job.Job.{Job}
use Rattle.nvm_plan.specs.declared.part.Part.{Part}
use Rattle.nvm_plan.specs.declared.part.PartResult.TheVariants.{Done}
use Rattle.nvm_plan.specs.Checks.{refusal_of}
use Rattle.nvm_plan.specs.JobPart.{job_units, job_part_in}
use Rattle.nvm_plan.specs.Operation.{job_operation_of}
use Rattle.nvm_plan.specs.Shape.{HasShapeOf, HasOutcomeShape}
use Rattle.nvm_store.specs.HistoryEntry.{HistoryEntry}
use Rattle.nvm_store.specs.History.{replay_of}
use Rattle.nvm_store.specs.Point.{point}
use Rattle.nvm_audit.specs.LawfulRecord.{times_done, HasItsShape, IsLawfulRecord}
use Rattle.nvm_audit.specs.LawfulUnit.{IsPartOfItsJob, MadeEntry, IsLawfulUnit}
use Rattle.nvm_audit.specs.OneAct.{done_alone, entry_alone, IsOfOneAct, HasJust}
use Rattle.nvm_audit.specs.Recordable.{IsRecordable, IsRecordableEntry}
use Rattle.nvm_audit.specs.RecordedJob.{RecordedJob}
use Rattle.nvm_audit.specs.RecordedPart.{RecordedPart, parts_in_unit}
use Rattle.nvm_audit.specs.RecordView.{RecordView}
use Rattle.nvm_audit.specs.Resting.{IsRightAtItsPoint}
use Rattle.nvm_audit.proofs.Complete.{complete_where_held}
use Rattle.nvm_audit.proofs.Standing.{none_stands, alone, read_there, all_at}
use Rattle.nvm_audit.proofs.Unrefused.{unrefused}

-- What the laws below say that are used here.
abbrev pub KeepsPairs : Type 0
KeepsPairs = (ns : Namespace) (op : Operation) (unit : ℕ) → is_pair (part_in ns op unit).deed ≡ is_pair op.deed

abbrev pub KeepsLooks : Type 0
KeepsLooks = (ns : Namespace) (op : Operation) (unit : ℕ) → is_look (part_in ns op unit).deed ≡ is_look op.deed

abbrev pub ActsSucceed : Type 0
ActsSucceed =
    (op : Operation) (m : Medium) → IsAct op.deed → IsSingle op.deed → statuses_of op m ≡ One successful_completion

abbrev pub HasPart : Type 0
HasPart =
    (ns : Namespace) (job : Job) (op : Operation) (unit : ℕ) → refusal_of ns job ≡ None → job_operation_of ns job ≡ Some op
    → Contains (units_met ns op) unit → job_part_in ns job unit ≡ Some (part_in ns op unit)

abbrev pub HasUnits : Type 0
HasUnits =
    (ns : Namespace) (job : Job) (op : Operation) → refusal_of ns job ≡ None → job_operation_of ns job ≡ Some op
    → job_units ns job ≡ units_met ns op

abbrev pub LiesInside : Type 0
LiesInside = (ns : Namespace) (job : Job) (unit : ℕ) → Contains (job_units ns job) unit → unit < units_of ns

abbrev pub ShapesByPlan : Type 0
ShapesByPlan =
    (ns : Namespace) (job : Job) (op : Operation) (parts : List Part) (told : Statuses) (read : Option (List ℕ))
    → refusal_of ns job ≡ None → job_operation_of ns job ≡ Some op
    → HasOutcomeShape ns job parts told read ↔ HasShapeOf ns op parts told read

-- the part that the record shows
abbrev part_alone : ℕ → RecordedPart
part_alone unit =
    record { worker = 0; done = done_alone unit; part = record { unit = unit; point = 0; result = Done }; is_last = true }

-- what one worker did
abbrev work_alone : ℕ → List (List RecordedJob)
work_alone unit = (done_alone unit ∷ []) ∷ []

module _ {A : Type 0} where
  record IsAlone (b : Bool) (x : A) (i : ℕ) (y : A) : Type 0 where
    there : b ≡ true
    place : i ≡ 0
    is : y ≡ x

  by_case : (b : Bool) (x : A) (i : ℕ) (y : A) → IsAt (cond b (x ∷ []) []) i y → IsAlone b x i y
  by_case true x i y e = let only = alone x i y e in record { there = refl; place = only.0; is = only.1 }
  by_case false x i y e = absurd (none_stands i y e)

not_so : (b : Bool) → IsTrue (not b) → b ≡ false
not_so true h = absurd (cc h)
not_so false h = refl

no_read : (deed : Deed) → IsTrue (not (is_look deed)) → IsTrue (is_read deed) → ⊥
no_read (writes payload) act read = cc read
no_read zeroes act read = cc read
no_read uncorrectable act read = cc read
no_read reads act read = cc act
no_read (compares payload) act read = cc act
no_read (pairs payload new) act read = cc read
no_read (deallocates ranges) act read = cc read

success_alone : (deed : Deed) → IsSingle deed → success_of deed ≡ One successful_completion
success_alone deed single = ap (λ (b : Bool). cond b (Two successful_completion successful_completion) (One successful_completion)) (not_so (is_pair deed) single)

pub shape_alone : (ns : Namespace) (op : Operation) (unit : ℕ) → IsAct op.deed → IsSingle op.deed → units_met ns op ≡ unit ∷ []
    → HasShapeOf ns op (record { unit = unit; point = 0; result = Done } ∷ []) (One successful_completion) None
shape_alone ns op unit act single one =
    record {
      ending =
          inr
          (inr
          (record {
            before = [];
            last = record { unit = unit; point = 0; result = Done };
            left = [];
            are = refl;
            units = sym one;
            results = (act, tt);
            going_on = tt;
            statuses = sym (success_alone op.deed single);
            whole = λ _. refl;
          }));
      payload = (λ some. absurd (cc some), λ gives. absurd (no_read op.deed act gives.0));
    }

module _ (pairs_kept : KeepsPairs) (looks_kept : KeepsLooks) (acts : ActsSucceed) (has_part : HasPart) (shapes : ShapesByPlan) (r : RecordView) (op : Operation)
    (unit : ℕ) (held : IsRecordable r) (one : IsOfOneAct r op unit) where
  free : refusal_of r.namespace one.job ≡ None
  free = (unrefused r.namespace one.job op one.ready).0

  stands : job_operation_of r.namespace one.job ≡ Some op
  stands = (unrefused r.namespace one.job op one.ready).1

  met : Contains (units_met r.namespace op) unit
  met = subst (λ (units : List ℕ). Contains units unit) (sym one.one) (0, omega arith, refl)

  here : IsAt r.jobs 0 one.job
  here = subst (λ (l : List Job). IsAt l 0 one.job) (sym one.jobs) refl

  part : job_part_in r.namespace one.job unit ≡ Some (part_in r.namespace op unit)
  part = has_part r.namespace one.job op unit free stands met

  single : IsSingle (part_in r.namespace op unit).deed
  single = subst (λ (b : Bool). IsTrue (not b)) (sym (pairs_kept r.namespace op unit)) one.single

  its_act : IsAct (part_in r.namespace op unit).deed
  its_act = subst (λ (b : Bool). IsTrue (not b)) (sym (looks_kept r.namespace op unit)) one.act

  only_job : (worker : ℕ) (work : List RecordedJob) (k : ℕ) (d : RecordedJob) → IsAt r.done worker work → IsAt work k d
      → d ≡ done_alone unit
  only_job worker work k d there at =
      let work_is = (alone (done_alone unit ∷ []) worker work (subst (λ (l : List (List RecordedJob)). IsAt l worker work) one.done there)).1 in
      (alone (done_alone unit) k d (subst (λ (l : List RecordedJob). IsAt l k d) work_is at)).1

  shape : HasItsShape r.namespace r.jobs (done_alone unit)
  shape =
      record {
        job = one.job;
        its = here;
        shape =
            (shapes r.namespace one.job op (done_alone unit).parts (One successful_completion) None free stands).1
            (shape_alone r.namespace op unit one.act one.single one.one);
      }

  once : (number : ℕ) → number < length r.jobs → times_done number r.done ≡ 1
  once number lt =
      let lt' : number < 1 = subst (λ (l : List Job). number < length l) one.jobs lt in
      let is : number ≡ 0 = omega arith in
      subst (λ (done : List (List RecordedJob)). times_done number done ≡ 1) (sym one.done)
      (subst (λ (n : ℕ). times_done n (work_alone unit) ≡ 1) (sym is) refl)

  -- what the record shows of a unit
  module _ (k : ℕ) (history : List HistoryEntry) (there : IsAt r.units k history)
      (is : history ≡ cond (nat_eq unit k) (entry_alone r.namespace op unit ∷ []) []) where
    entry_is : (i : ℕ) (entry : HistoryEntry) → IsAt history i entry
        → IsAlone (nat_eq unit k) (entry_alone r.namespace op unit) i entry
    entry_is i entry at =
        by_case (nat_eq unit k) (entry_alone r.namespace op unit) i entry (subst (λ (l : List HistoryEntry). IsAt l i entry) is at)

    part_is : (i : ℕ) (p : RecordedPart) → IsAt (parts_in_unit k r.done) i p → IsAlone (nat_eq unit k) (part_alone unit) i p
    part_is i p at =
        by_case (nat_eq unit k) (part_alone unit) i p
        (subst (λ (done : List (List RecordedJob)). IsAt (parts_in_unit k done) i p) one.done at)

    unit_is : nat_eq unit k ≡ true → unit ≡ k
    unit_is e = (Decides-eqb unit k).0 e

    entry_there : nat_eq unit k ≡ true → IsAt history 0 (entry_alone r.namespace op unit)
    entry_there e =
        subst (λ (l : List HistoryEntry). IsAt l 0 (entry_alone r.namespace op unit)) (sym is)
        (subst (λ (b : Bool). IsAt (cond b (entry_alone r.namespace op unit ∷ []) []) 0 (entry_alone r.namespace op unit)) (sym e) refl)

    part_there : nat_eq unit k ≡ true → IsAt (parts_in_unit k r.done) 0 (part_alone unit)
    part_there e =
        subst (λ (done : List (List RecordedJob)). IsAt (parts_in_unit k done) 0 (part_alone unit)) (sym one.done)
        (subst (λ (b : Bool). IsAt (cond b (part_alone unit ∷ []) []) 0 (part_alone unit)) (sym e) refl)

    its_part : nat_eq unit k ≡ true → IsPartOfItsJob r.namespace r.jobs k (entry_alone r.namespace op unit)
    its_part e =
        subst (λ (n : ℕ). IsPartOfItsJob r.namespace r.jobs n (entry_alone r.namespace op unit)) (unit_is e)
        (record { job = one.job; its = here; part = part })

    rests : IsRightAtItsPoint r.namespace r.limit r.jobs history (part_alone unit)
    rests =
        record {
          whole = op;
          does = record { job = one.job; its = here; ready = one.ready };
          within = omega arith;
          status =
              success_alone (part_in r.namespace op unit).deed single
              ∙ sym (acts (part_in r.namespace op unit) (point r.namespace.block_size history 0) its_act single);
          payload = λ bytes e. absurd (none-some bytes e);
        }

    its_unit : IsLawfulUnit r.namespace r.limit r.jobs k history (parts_in_unit k r.done)
    its_unit =
        let kept = held.units k history there in
        record {
          place = kept.place;
          lies = kept.lies;
          lawful =
              λ i entry at.
              let fits = all_at (IsRecordableEntry r kept.place) history kept.each i entry at in
              let only = entry_is i entry at in
              let alone_single = subst (λ (e : HistoryEntry). IsSingle e.operation.deed) (sym only.is) single in
              record {
                act = fits.act;
                covered = fits.covered;
                succeeds =
                    subst IsSuccess
                    (sym (acts entry.operation (replay_of kept.place.size (take i history)) fits.act alone_single)) refl;
              };
          entries =
              λ i entry at.
              let only = entry_is i entry at in
              subst (λ (e : HistoryEntry). IsPartOfItsJob r.namespace r.jobs k e) (sym only.is) (its_part only.there);
          claimed =
              λ i entry at.
              let only = entry_is i entry at in (
                0,
                part_alone unit,
                part_there only.there,
                record {
                  worker = ap (λ (e : HistoryEntry). e.pass) only.is;
                  job = ap (λ (e : HistoryEntry). e.job) only.is;
                  result = refl;
                  point = sym only.place;
                },
              );
          made =
              λ i p at done.
              let only = part_is i p at in
              subst
              (λ (q : RecordedPart). (entry : HistoryEntry) × IsAt history q.part.point entry × MadeEntry q.part.point entry q)
              (sym only.is) (
                entry_alone r.namespace op unit,
                entry_there only.there,
                record { worker = refl; job = refl; result = refl; point = refl },
              );
          rests =
              λ i p at.
              let only = part_is i p at in
              subst (λ (q : RecordedPart). IsRightAtItsPoint r.namespace r.limit r.jobs history q) (sym only.is) rests;
          order =
              λ i j earlier later at after lt same.
              let first : i ≡ 0 = (part_is i earlier at).place in
              let second : j ≡ 0 = (part_is j later after).place in
              absurd (omega arith);
        }

  pub lawful : HasJust r unit (entry_alone r.namespace op unit ∷ []) → IsLawfulRecord r
  lawful just =
      record {
        complete = complete_where_held r held;
        once = once;
        shapes =
            λ worker work k d there at.
            subst (λ (x : RecordedJob). HasItsShape r.namespace r.jobs x) (sym (only_job worker work k d there at)) shape;
        units = λ k history there. its_unit k history there (just k history there);
      }

  pub left_out : HasUnits → LiesInside → HasJust r unit [] → IsLawfulRecord r → ⊥
  left_out units inside just record_is =
      let known : unit < units_of r.namespace =
      inside r.namespace one.job unit
      (subst (λ (l : List ℕ). Contains l unit) (sym (units r.namespace one.job op free stands)) met) in
      let few : length r.units ≡ units_of r.namespace = held.all_units in
      let lt : unit < length r.units = omega arith in
      let history = get_or r.units unit [] in
      let there : IsAt r.units unit history = read_there r.units unit [] lt in
      let same : nat_eq unit unit ≡ true = (Decides-eqb unit unit).1 refl in
      let none : history ≡ [] = just unit history there ∙ ap (λ (b : Bool). cond b [] []) same in
      let shown : IsAt (parts_in_unit unit r.done) 0 (part_alone unit) =
      subst (λ (done : List (List RecordedJob)). IsAt (parts_in_unit unit done) 0 (part_alone unit)) (sym one.done)
      (subst (λ (b : Bool). IsAt (cond b (part_alone unit ∷ []) []) 0 (part_alone unit)) (sym same) refl) in
      let made = (record_is.units unit history there).made 0 (part_alone unit) shown refl in
      none_stands 0 made.0 (subst (λ (l : List HistoryEntry). IsAt l 0 made.0) none made.1)
