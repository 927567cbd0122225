-- A search through a record's units by their numbers, where the jobs pass.
use Rattle.std.proofs.Common.{◌≡◌, ℕ, ◌+◌, ◌++◌, ◌<◌, ◌≤◌, List, length, Some, None, sym, subst, inl, inr, arith}
use Rattle.std.proofs.lemmas.Bool.{cases_eq}
use Rattle.std.specs.List.{AllByRecursion}
use Rattle.nvm_record.specs.Lists.{IsAt}
use Rattle.nvm_geometry.specs.Boundaries.{units_of}
use Rattle.nvm_store.specs.HistoryEntry.{HistoryEntry}
use Rattle.nvm_audit.specs.declared.audit_fault.AuditFault.{AuditFault}
use Rattle.nvm_audit.specs.Inside.Grouped.{AllHaveUnits}
use Rattle.nvm_audit.specs.Inside.UnitSearch.{IsFoundIn}
use Rattle.nvm_audit.specs.LawfulRecord.{times_done, HaveShapes}
use Rattle.nvm_audit.specs.RecordChecks.{Passes, count_checks, shape_checks, HasNoFault, IsFirstFault}
use Rattle.nvm_audit.specs.Recordable.{IsRecordable, IsRecordableDone, IsRecordableWork}
use Rattle.nvm_audit.specs.RecordView.{RecordView}
use Rattle.nvm_audit.specs.UnitChecks.{HasNoUnitFault}
use Rattle.nvm_audit.specs.UnitView.{view_of_unit}
use Rattle.nvm_audit.proofs.EachPasses as each
use Rattle.nvm_audit.proofs.FirstFaults.{wrong_in_unit, none_wrong}
use Rattle.nvm_audit.proofs.Places.{get_or_there}
use Rattle.nvm_audit.proofs.RecordChecksPass.{once_each, shape_each}
use Rattle.nvm_audit.proofs.Standing.{all_at, below}

module _ (r : RecordView) where
  -- Each job was done once, and each done job has its shape.
  abbrev pub JobsPass : Type 0
  JobsPass = AllByRecursion (Passes r) (count_checks (length r.jobs) ++ shape_checks (length r.jobs))

  once_of : JobsPass → (number : ℕ) → number < length r.jobs → times_done number r.done ≡ 1
  once_of all = once_each r (each.in_front (Passes r) (count_checks (length r.jobs)) (shape_checks (length r.jobs)) all)

  pub shapes_of : IsRecordable r → JobsPass → HaveShapes r
  shapes_of held all = shape_each r held (each.behind (Passes r) (count_checks (length r.jobs)) (shape_checks (length r.jobs)) all)

  -- Each part that was done names one of the units.
  pub parts_inside : IsRecordable r → (units : ℕ) → units ≡ units_of r.namespace → AllHaveUnits units r.done
  parts_inside held units count = λ worker work there k d job i part at.
      let does = all_at (IsRecordableWork r) r.done held.done worker work there in
      let one = all_at (IsRecordableDone r) work does.each k d job in
      let inside = all_at (λ part. part.unit < units_of r.namespace) d.parts one.units i part at in
      omega (arith, inside, count)

  -- Nothing is wrong in the units before.
  abbrev pub IsCleanBelow : ℕ → Type 0
  IsCleanBelow unit =
      (i : ℕ) (history : List HistoryEntry) → i < unit → IsAt r.units i history → HasNoUnitFault (view_of_unit r i history)

  pub wrong_here : IsRecordable r → JobsPass → (unit : ℕ) → unit < length r.units → IsCleanBelow unit
      → (fault : AuditFault) → IsFoundIn r unit (Some fault) → IsFirstFault r fault
  wrong_here held all unit low clean fault found =
      let there = get_or_there r.units unit low in
      wrong_in_unit r (once_of all) (shapes_of held all) unit there.0 there.1 clean fault (found there.0 there.1)

  pub clean_here : (unit : ℕ) → IsCleanBelow unit → IsFoundIn r unit None → IsCleanBelow (unit + 1)
  clean_here unit clean none i history lt at = elim (cases_eq i unit) [
    | inl e ↦
        subst (λ (n : ℕ). HasNoUnitFault (view_of_unit r n history)) (sym e)
        (none history (subst (λ (n : ℕ). IsAt r.units n history) e at))
    | inr other ↦ clean i history (omega (arith, lt, other)) at
  ]

  pub clean_everywhere : IsRecordable r → JobsPass → (units : ℕ) → length r.units ≤ units → IsCleanBelow units → HasNoFault r
  clean_everywhere held all units long clean =
      none_wrong r (once_of all) (shapes_of held all)
      (λ unit history there.
      let low = below r.units unit history there in
      clean unit history (omega (arith, low, long)) there)
