-- What is looked for in one unit, in which order, and which fault is named where it isn't so (own). The entries are looked at
-- by place, then the parts that name the unit, by worker and in the worker's order.
use Rattle.std.specs.Prelude.{◌≡◌, ℕ, ◌+◌, ◌≤◌, List, [], ◌∷◌, ◌++◌, length, Some}
use Rattle.std.specs.List.{AllByRecursion}
use Rattle.nvm_record.specs.Status.{IsSuccess}
use Rattle.nvm_record.specs.Step.{Operation, statuses_of}
use Rattle.nvm_geometry.specs.Parts.{part_in}
use Rattle.nvm_plan.specs.declared.part.PartResult.TheVariants.{Done}
use Rattle.nvm_store.specs.HistoryEntry.{HistoryEntry}
use Rattle.nvm_store.specs.Point.{point}
use Rattle.nvm_audit.specs.declared.audit_fault.AuditFault.{AuditFault}
use Rattle.nvm_audit.specs.declared.audit_fault.AuditFault.TheVariants.{EntryUnclaimed, EntryWrong, PointPast, PointBack, StatusWrong, DataWrong}
use Rattle.nvm_audit.specs.declared.audit_fault.Spot.{Spot}
use Rattle.nvm_audit.specs.FirstFailed.{IsFirstFailed}
use Rattle.nvm_audit.specs.LawfulUnit.{IsPartOfItsJob, IsClaimed, HasMadeEntry}
use Rattle.nvm_audit.specs.PointOrder.{IsNotBefore}
use Rattle.nvm_audit.specs.RecordedPart.{RecordedPart}
use Rattle.nvm_audit.specs.Resting.{DoesOperation, HasRightStatus, HasRightData}
use Rattle.nvm_audit.specs.UnitView.{UnitView}

-- one thing that is looked for in a unit
pub data UnitCheck : Type 0 where
  -- The entry at this place is its job's part in the unit, and succeeds there.
  entry_right : ℕ → HistoryEntry → UnitCheck
  -- A part made the entry at this place.
  entry_claimed : ℕ → HistoryEntry → UnitCheck
  -- The history has come to the part's point, and has its entry there where it made one.
  point_there : RecordedPart → UnitCheck
  -- The part's point doesn't go back before those of its worker before, which are among these parts.
  point_on : List RecordedPart → RecordedPart → UnitCheck
  -- How the part ended, and its statuses, are right at its point.
  status_right : RecordedPart → UnitCheck
  -- The data of the part, where there is any, is that of its point.
  payload_right : RecordedPart → UnitCheck

-- The entry at this place is its job's part in the unit, and succeeds after the entries before it.
pub record IsEntryRight (u : UnitView) (place : ℕ) (entry : HistoryEntry) : Type 0 where
  pub part : IsPartOfItsJob u.namespace u.jobs u.unit entry
  pub success : IsSuccess (statuses_of entry.operation (point u.namespace.block_size u.history place))

-- The history has come to the part's point, and a part that was done has its entry there.
pub record HasItsPoint (u : UnitView) (p : RecordedPart) : Type 0 where
  pub within : p.part.point ≤ length u.history
  pub made : p.part.result ≡ Done → HasMadeEntry u.history p

-- How the part ended and what was answered for it is right at its point.
pub record HasItsStatus (u : UnitView) (p : RecordedPart) : Type 0 where
  pub whole : Operation
  pub does : DoesOperation u.namespace u.jobs p.done.job whole
  pub status : HasRightStatus u.namespace.block_size u.limit u.history (part_in u.namespace whole p.part.unit) p p.part.result

-- The data of the part, where the job's is recorded, is that of its point.
pub record HasItsData (u : UnitView) (p : RecordedPart) : Type 0 where
  pub whole : Operation
  pub does : DoesOperation u.namespace u.jobs p.done.job whole
  pub payload : HasRightData u.namespace whole (point u.namespace.block_size u.history p.part.point) p

-- The check passes.
abbrev pub PassesInUnit : UnitView → UnitCheck → Type 0
PassesInUnit u (entry_right place entry) = IsEntryRight u place entry
PassesInUnit u (entry_claimed place entry) = IsClaimed u.parts place entry
PassesInUnit u (point_there p) = HasItsPoint u p
PassesInUnit u (point_on before p) = AllByRecursion (λ earlier. IsNotBefore earlier p) before
PassesInUnit u (status_right p) = HasItsStatus u p
PassesInUnit u (payload_right p) = HasItsData u p

-- the checks of these entries, the first of which is at this place
abbrev pub entry_checks : ℕ → List HistoryEntry → List UnitCheck
entry_checks place [] = []
entry_checks place (entry ∷ entries) = entry_right place entry ∷ entry_claimed place entry ∷ entry_checks (place + 1) entries

-- the checks of these parts, which come after those others
abbrev pub part_checks : List RecordedPart → List RecordedPart → List UnitCheck
part_checks before [] = []
part_checks before (p ∷ ps) =
    point_there p ∷ point_on before p ∷ status_right p ∷ payload_right p ∷ part_checks (before ++ p ∷ []) ps

-- all that is looked for in a unit, in its order
abbrev pub unit_checks : UnitView → List UnitCheck
unit_checks u = entry_checks 0 u.history ++ part_checks [] u.parts

abbrev pub spot : ℕ → ℕ → Spot
spot unit place = record { unit = unit; place = place }

-- The fault that a check of this unit finds. Of a part its point is named as the place.
abbrev pub fault_in : ℕ → UnitCheck → AuditFault
fault_in unit (entry_right place entry) = EntryWrong entry.job (spot unit place)
fault_in unit (entry_claimed place entry) = EntryUnclaimed entry.job (spot unit place)
fault_in unit (point_there p) = PointPast p.done.job (spot unit p.part.point)
fault_in unit (point_on before p) = PointBack p.done.job (spot unit p.part.point)
fault_in unit (status_right p) = StatusWrong p.done.job (Some (spot unit p.part.point))
fault_in unit (payload_right p) = DataWrong p.done.job (spot unit p.part.point)

-- Nothing is wrong in the unit.
abbrev pub HasNoUnitFault : UnitView → Type 0
HasNoUnitFault u = AllByRecursion (PassesInUnit u) (unit_checks u)

-- It is the first fault of the unit: what the first check of the unit finds that doesn't pass.
pub record IsFirstUnitFault (u : UnitView) (fault : AuditFault) : Type 0 where
  pub check : UnitCheck
  pub first : IsFirstFailed (PassesInUnit u) (unit_checks u) check
  pub is : fault ≡ fault_in u.unit check
