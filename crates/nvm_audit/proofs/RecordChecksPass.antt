-- What is looked for in a record is exactly what makes it lawful.
use Rattle.std.proofs.Common.{◌≡◌, ℕ, zero, suc, ◌+◌, ◌<◌, List, [], ◌∷◌, ◌++◌, length, map, refl, subst, arith}
use Rattle.std.specs.List.{AllByRecursion, range_with_len}
use Rattle.nvm_record.specs.Lists.{IsAt}
use Rattle.nvm_store.specs.HistoryEntry.{HistoryEntry}
use Rattle.nvm_audit.specs.LawfulRecord.{times_done, HaveShapes, IsLawfulRecord}
use Rattle.nvm_audit.specs.Recordable.{IsRecordable, IsRecordableEntry, IsRecordableDone, IsRecordableWork}
use Rattle.nvm_audit.specs.RecordChecks.{job_done, job_once, shape_right, in_unit, Passes, HaveShapesOf, count_checks, shape_checks, checks_of_units, HasNoFault}
use Rattle.nvm_audit.specs.RecordView.{RecordView}
use Rattle.nvm_audit.specs.UnitChecks.{unit_checks, HasNoUnitFault}
use Rattle.nvm_audit.specs.UnitView.{view_of_unit}
use Rattle.nvm_audit.proofs.EachPasses.{joined, in_front, behind, mapped, unmapped, each_list, list_of, of_range, at_number}
use Rattle.nvm_audit.proofs.Complete.{complete_where_held}
use Rattle.nvm_audit.proofs.Standing.{none_stands, all_at, below}
use Rattle.nvm_audit.proofs.UnitChecksPass.{lawful_unit, no_unit_fault}
use mathlib.Core.Option.{some-injective}

module _ (r : RecordView) where
  pub all_counted : ((number : ℕ) → number < length r.jobs → times_done number r.done ≡ 1)
      → AllByRecursion (Passes r) (count_checks (length r.jobs))
  all_counted once =
      each_list (Passes r) (λ number. job_done number ∷ job_once number ∷ []) 0 (length r.jobs)
      (λ number lt.
      let one = once number (omega (arith, lt)) in
      (omega (arith, one), (omega (arith, one), tt)))

  pub once_each : AllByRecursion (Passes r) (count_checks (length r.jobs)) → (number : ℕ) → number < length r.jobs
      → times_done number r.done ≡ 1
  once_each all number lt =
      let found = list_of (Passes r) (λ number. job_done number ∷ job_once number ∷ []) 0 (length r.jobs) all number
      (omega arith) (omega (arith, lt)) in
      let some = found.0 in
      let most = found.1.0 in
      omega (arith, some, most)

  pub all_shaped : HaveShapes r → AllByRecursion (Passes r) (shape_checks (length r.jobs))
  all_shaped shapes =
      mapped (Passes r) shape_right (range_with_len 0 (length r.jobs))
      (of_range (HaveShapesOf r) 0 (length r.jobs) (λ number worker work k d there at is. shapes worker work k d there at))

  pub shape_each : IsRecordable r → AllByRecursion (Passes r) (shape_checks (length r.jobs)) → HaveShapes r
  shape_each held all worker work k d there at =
      let does = all_at (IsRecordableWork r) r.done held.done worker work there in
      let one = all_at (IsRecordableDone r) work does.each k d at in
      let lt = below r.jobs d.job one.job one.its in
      at_number (HaveShapesOf r) 0 (length r.jobs) (unmapped (Passes r) shape_right (range_with_len 0 (length r.jobs)) all)
      d.job (omega arith) (omega (arith, lt)) worker work k d there at refl

  pub units_pass : (unit : ℕ) (units : List (List HistoryEntry))
      → ((i : ℕ) (history : List HistoryEntry) → IsAt units i history → HasNoUnitFault (view_of_unit r (unit + i) history))
      → AllByRecursion (Passes r) (checks_of_units r unit units)
  units_pass unit [] each = tt
  units_pass unit (history ∷ rest) each =
      let here : unit + 0 ≡ unit = omega arith in
      joined (Passes r) (map (in_unit (view_of_unit r unit history)) (unit_checks (view_of_unit r unit history)))
      (checks_of_units r (unit + 1) rest)
      (mapped (Passes r) (in_unit (view_of_unit r unit history)) (unit_checks (view_of_unit r unit history))
      (subst (λ (n : ℕ). HasNoUnitFault (view_of_unit r n history)) here (each 0 history refl)))
      (units_pass (unit + 1) rest
      (λ i next at.
      let number : unit + suc i ≡ unit + 1 + i = omega arith in
      subst (λ (n : ℕ). HasNoUnitFault (view_of_unit r n next)) number (each (suc i) next at)))

  unit_passed : (unit : ℕ) (units : List (List HistoryEntry)) → AllByRecursion (Passes r) (checks_of_units r unit units)
      → (i : ℕ) (history : List HistoryEntry) → IsAt units i history → HasNoUnitFault (view_of_unit r (unit + i) history)
  unit_passed unit [] all i history at = absurd (none_stands i history at)
  unit_passed unit (first ∷ rest) all zero history at =
      let here : unit ≡ unit + 0 = omega arith in
      subst (λ (n : ℕ). HasNoUnitFault (view_of_unit r n history)) here
      (subst (λ (h : List HistoryEntry). HasNoUnitFault (view_of_unit r unit h)) (some-injective first history at)
      (unmapped (Passes r) (in_unit (view_of_unit r unit first)) (unit_checks (view_of_unit r unit first))
      (in_front (Passes r) (map (in_unit (view_of_unit r unit first)) (unit_checks (view_of_unit r unit first)))
      (checks_of_units r (unit + 1) rest) all)))
  unit_passed unit (first ∷ rest) all (suc i) history at =
      let number : unit + 1 + i ≡ unit + suc i = omega arith in
      subst (λ (n : ℕ). HasNoUnitFault (view_of_unit r n history)) number
      (unit_passed (unit + 1) rest
      (behind (Passes r) (map (in_unit (view_of_unit r unit first)) (unit_checks (view_of_unit r unit first)))
      (checks_of_units r (unit + 1) rest) all)
      i history at)

  pub passes_where_lawful : IsLawfulRecord r → HasNoFault r
  passes_where_lawful lawful =
      joined (Passes r) (count_checks (length r.jobs) ++ shape_checks (length r.jobs)) (checks_of_units r 0 r.units)
      (joined (Passes r) (count_checks (length r.jobs)) (shape_checks (length r.jobs)) (all_counted lawful.once) (all_shaped lawful.shapes))
      (units_pass 0 r.units
      (λ unit history there.
      let number : unit ≡ 0 + unit = omega arith in
      subst (λ (n : ℕ). HasNoUnitFault (view_of_unit r n history)) number
      (no_unit_fault (view_of_unit r unit history) (lawful.units unit history there))))

  pub lawful_where_passed : IsRecordable r → HasNoFault r → IsLawfulRecord r
  lawful_where_passed held all =
      let jobs = in_front (Passes r) (count_checks (length r.jobs) ++ shape_checks (length r.jobs)) (checks_of_units r 0 r.units) all in
      let units = behind (Passes r) (count_checks (length r.jobs) ++ shape_checks (length r.jobs)) (checks_of_units r 0 r.units) all in
      let counted = in_front (Passes r) (count_checks (length r.jobs)) (shape_checks (length r.jobs)) jobs in
      let shaped = behind (Passes r) (count_checks (length r.jobs)) (shape_checks (length r.jobs)) jobs in
      record {
        complete = complete_where_held r held;
        once = once_each counted;
        shapes = shape_each held shaped;
        units =
            λ unit history there.
            let kept = held.units unit history there in
            let number : 0 + unit ≡ unit = omega arith in
            lawful_unit (view_of_unit r unit history) kept.place kept.lies
            (λ i entry at. (all_at (IsRecordableEntry r kept.place) history kept.each i entry at).act)
            (λ i entry at. (all_at (IsRecordableEntry r kept.place) history kept.each i entry at).covered)
            (subst (λ (n : ℕ). HasNoUnitFault (view_of_unit r n history)) number (unit_passed 0 r.units units unit history there));
      }
