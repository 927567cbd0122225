-- What is looked for in a unit is exactly what makes it lawful.
use Rattle.std.proofs.Common.{◌≡◌, ℕ, zero, suc, ◌+◌, List, [], ◌∷◌, ◌++◌, refl, sym, ap, subst, ◌∙◌, arith}
use Rattle.std.proofs.lemmas.Option.{same_Some}
use Rattle.std.specs.List.{AllByRecursion}
use Rattle.nvm_record.specs.Deeds.{IsAct}
use Rattle.nvm_record.specs.Lists.{IsAt}
use Rattle.nvm_record.specs.Status.{IsSuccess}
use Rattle.nvm_record.specs.Step.{Operation, statuses_of}
use Rattle.nvm_geometry.specs.Namespace.{Namespace}
use Rattle.nvm_plan.specs.declared.job.Job.{Job}
use Rattle.nvm_plan.specs.JobPart.{ready_operation}
use Rattle.nvm_plan.specs.UnitPlace.{IsUnitPlace}
use Rattle.nvm_store.specs.declared.place.Place.{Place}
use Rattle.nvm_store.specs.HistoryEntry.{HistoryEntry}
use Rattle.nvm_store.specs.Place.{IsCovered}
use Rattle.nvm_store.specs.Point.{point}
use Rattle.nvm_audit.specs.LawfulUnit.{IsClaimed, IsLawfulUnit}
use Rattle.nvm_audit.specs.PointOrder.{IsNotBefore, PointsNeverGoBack}
use Rattle.nvm_audit.specs.RecordedPart.{RecordedPart}
use Rattle.nvm_audit.specs.Resting.{DoesOperation, HasRightData, IsRightAtItsPoint}
use Rattle.nvm_audit.specs.UnitChecks.{IsEntryRight, HasItsPoint, HasItsStatus, HasItsData, PassesInUnit, entry_checks, part_checks, HasNoUnitFault}
use Rattle.nvm_audit.specs.UnitView.{UnitView}
use Rattle.nvm_audit.proofs.EachPasses.{joined, in_front, behind}
use Rattle.nvm_audit.proofs.Standing.{none_stands, one_there}
use mathlib.Core.Option.{some-injective}

-- A job is done by one operation.
pub one_operation : (ns : Namespace) (jobs : List Job) (number : ℕ) (whole other : Operation) → DoesOperation ns jobs number whole
    → DoesOperation ns jobs number other → whole ≡ other
one_operation ns jobs number whole other does also =
    let same : does.job ≡ also.job = one_there jobs number does.job also.job does.its also.its in
    same_Some whole other (sym does.ready ∙ ap (λ (j : Job). ready_operation ns j) same ∙ also.ready)

module _ (u : UnitView) where
  -- What is looked for of an entry.
  record EntryPasses (place : ℕ) (entry : HistoryEntry) : Type 0 where
    right : IsEntryRight u place entry
    claimed : IsClaimed u.parts place entry

  entries_pass : (place : ℕ) (entries : List HistoryEntry)
      → ((i : ℕ) (entry : HistoryEntry) → IsAt entries i entry → EntryPasses (place + i) entry)
      → AllByRecursion (PassesInUnit u) (entry_checks place entries)
  entries_pass place [] each = tt
  entries_pass place (entry ∷ entries) each =
      let here : place + 0 ≡ place = omega arith in
      let first = subst (λ (n : ℕ). EntryPasses n entry) here (each 0 entry refl) in
      let rest = entries_pass (place + 1) entries
      (λ i next at.
      let number : place + suc i ≡ place + 1 + i = omega arith in
      subst (λ (n : ℕ). EntryPasses n next) number (each (suc i) next at)) in
      (first.right, (first.claimed, rest))

  entry_passed : (place : ℕ) (entries : List HistoryEntry) → AllByRecursion (PassesInUnit u) (entry_checks place entries)
      → (i : ℕ) (entry : HistoryEntry) → IsAt entries i entry → EntryPasses (place + i) entry
  entry_passed place [] all i entry at = absurd (none_stands i entry at)
  entry_passed place (first ∷ entries) all zero entry at =
      let here : place ≡ place + 0 = omega arith in
      subst (λ (n : ℕ). EntryPasses n entry) here
      (subst (λ (e : HistoryEntry). EntryPasses place e) (some-injective first entry at) (record { right = all.0; claimed = all.1.0 }))
  entry_passed place (first ∷ entries) all (suc i) entry at =
      let number : place + 1 + i ≡ place + suc i = omega arith in
      subst (λ (n : ℕ). EntryPasses n entry) number (entry_passed (place + 1) entries all.1.1 i entry at)

  -- What is looked for of a part by itself.
  record PartPasses (p : RecordedPart) : Type 0 where
    there : HasItsPoint u p
    status : HasItsStatus u p
    payload : HasItsData u p

  -- No part of these goes back before an earlier one, of these or of those that come before all.
  record AreInOrder (before parts : List RecordedPart) : Type 0 where
    after : (i : ℕ) (p : RecordedPart) → IsAt parts i p → AllByRecursion (λ earlier. IsNotBefore earlier p) before
    order : PointsNeverGoBack parts

  order_behind : (before : List RecordedPart) (p : RecordedPart) (ps : List RecordedPart) → AreInOrder before (p ∷ ps)
      → AreInOrder (before ++ p ∷ []) ps
  order_behind before p ps ordered =
      record {
        after =
            λ i later at.
            joined (λ earlier. IsNotBefore earlier later) before (p ∷ []) (ordered.after (suc i) later at)
            (ordered.order 0 (suc i) p later refl at (omega arith), tt);
        order = λ i j earlier later at also lt. ordered.order (suc i) (suc j) earlier later at also (omega (arith, lt));
      }

  order_of_all : (before : List RecordedPart) (p : RecordedPart) (ps : List RecordedPart)
      → AllByRecursion (λ earlier. IsNotBefore earlier p) before → AreInOrder (before ++ p ∷ []) ps → AreInOrder before (p ∷ ps)
  order_of_all before p ps first rest = record { after = after; order = order }
    where
      after : (i : ℕ) (q : RecordedPart) → IsAt (p ∷ ps) i q → AllByRecursion (λ earlier. IsNotBefore earlier q) before
      after zero q at =
          subst (λ (x : RecordedPart). AllByRecursion (λ earlier. IsNotBefore earlier x) before) (some-injective p q at) first
      after (suc i) q at = in_front (λ earlier. IsNotBefore earlier q) before (p ∷ []) (rest.after i q at)

      order : PointsNeverGoBack (p ∷ ps)
      order i zero earlier later at also lt = absurd (omega (arith, lt))
      order zero (suc j) earlier later at also lt =
          subst (λ (x : RecordedPart). IsNotBefore x later) (some-injective p earlier at)
          (behind (λ earlier. IsNotBefore earlier later) before (p ∷ []) (rest.after j later also)).0
      order (suc i) (suc j) earlier later at also lt = rest.order i j earlier later at also (omega (arith, lt))

  parts_pass : (before parts : List RecordedPart) → ((i : ℕ) (p : RecordedPart) → IsAt parts i p → PartPasses p)
      → AreInOrder before parts → AllByRecursion (PassesInUnit u) (part_checks before parts)
  parts_pass before [] each ordered = tt
  parts_pass before (p ∷ ps) each ordered =
      let first = each 0 p refl in
      let rest = parts_pass (before ++ p ∷ []) ps (λ i q at. each (suc i) q at) (order_behind before p ps ordered) in
      (first.there, (ordered.after 0 p refl, (first.status, (first.payload, rest))))

  record PartsPass (before parts : List RecordedPart) : Type 0 where
    each : (i : ℕ) (p : RecordedPart) → IsAt parts i p → PartPasses p
    ordered : AreInOrder before parts

  parts_passed : (before parts : List RecordedPart) → AllByRecursion (PassesInUnit u) (part_checks before parts)
      → PartsPass before parts
  parts_passed before [] all =
      record {
        each = λ i p at. absurd (none_stands i p at);
        ordered =
            record {
              after = λ i p at. absurd (none_stands i p at);
              order = λ i j earlier later at also lt. absurd (none_stands i earlier at);
            };
      }
  parts_passed before (p ∷ ps) all =
      let rest = parts_passed (before ++ p ∷ []) ps all.1.1.1.1 in
      record { each = each rest; ordered = order_of_all before p ps all.1.0 rest.ordered }
    where
      each : PartsPass (before ++ p ∷ []) ps → (i : ℕ) (q : RecordedPart) → IsAt (p ∷ ps) i q → PartPasses q
      each rest zero q at =
          subst PartPasses (some-injective p q at) (record { there = all.0; status = all.1.1.0; payload = all.1.1.1.0 })
      each rest (suc i) q at = rest.each i q at

  right_at_point : (p : RecordedPart) → PartPasses p → IsRightAtItsPoint u.namespace u.limit u.jobs u.history p
  right_at_point p passes =
      let status = passes.status in
      let payload = passes.payload in
      record {
        whole = status.whole;
        does = status.does;
        within = passes.there.within;
        status = status.status;
        payload =
            subst (λ (op : Operation). HasRightData u.namespace op (point u.namespace.block_size u.history p.part.point) p)
            (one_operation u.namespace u.jobs p.done.job payload.whole status.whole payload.does status.does) payload.payload;
      }

  pub lawful_unit : (place : Place) → IsUnitPlace u.namespace u.unit place
      → ((i : ℕ) (entry : HistoryEntry) → IsAt u.history i entry → IsAct entry.operation.deed)
      → ((i : ℕ) (entry : HistoryEntry) → IsAt u.history i entry → IsCovered place entry.operation)
      → HasNoUnitFault u
      → IsLawfulUnit u.namespace u.limit u.jobs u.unit u.history u.parts
  lawful_unit place lies act covered all =
      let entry = entry_passed 0 u.history (in_front (PassesInUnit u) (entry_checks 0 u.history) (part_checks [] u.parts) all) in
      let parts = parts_passed [] u.parts (behind (PassesInUnit u) (entry_checks 0 u.history) (part_checks [] u.parts) all) in
      let here : (i : ℕ) (e : HistoryEntry) → IsAt u.history i e → EntryPasses i e =
      λ i e at. let number : 0 + i ≡ i = omega arith in subst (λ (n : ℕ). EntryPasses n e) number (entry i e at) in
      record {
        place = place;
        lies = lies;
        lawful =
            λ i e at.
            record {
              act = act i e at;
              covered = covered i e at;
              succeeds =
                  subst (λ (size : ℕ). IsSuccess (statuses_of e.operation (point size u.history i))) (sym lies.size) (here i e at).right.success;
            };
        entries = λ i e at. (here i e at).right.part;
        claimed = λ i e at. (here i e at).claimed;
        made = λ k p at done. (parts.each k p at).there.made done;
        rests = λ k p at. right_at_point p (parts.each k p at);
        order = parts.ordered.order;
      }

  pub no_unit_fault : IsLawfulUnit u.namespace u.limit u.jobs u.unit u.history u.parts → HasNoUnitFault u
  no_unit_fault its =
      joined (PassesInUnit u) (entry_checks 0 u.history) (part_checks [] u.parts)
      (entries_pass 0 u.history
      (λ i e at.
      let number : i ≡ 0 + i = omega arith in
      subst (λ (n : ℕ). EntryPasses n e) number
      (record {
        right =
            record {
              part = its.entries i e at;
              success =
                  subst (λ (size : ℕ). IsSuccess (statuses_of e.operation (point size u.history i))) its.lies.size (its.lawful i e at).succeeds;
            };
        claimed = its.claimed i e at;
      })))
      (parts_pass [] u.parts
      (λ k p at.
      let rests = its.rests k p at in
      record {
        there = record { within = rests.within; made = λ done. its.made k p at done };
        status = record { whole = rests.whole; does = rests.does; status = rests.status };
        payload = record { whole = rests.whole; does = rests.does; payload = rests.payload };
      })
      (record { after = λ i p at. tt; order = its.order }))
