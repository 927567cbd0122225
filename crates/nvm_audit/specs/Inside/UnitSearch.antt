-- What a search through the units of a record finds, each unit by itself.
use Rattle.std.specs.Prelude.{ℕ, ◌<◌, List, length, MatchOption, Option}
use Rattle.nvm_record.specs.Lists.{IsAt}
use Rattle.nvm_store.specs.HistoryEntry.{HistoryEntry}
use Rattle.nvm_audit.specs.declared.audit_fault.AuditFault.{AuditFault}
use Rattle.nvm_audit.specs.Inside.Grouped.{AreGrouped}
use Rattle.nvm_audit.specs.LawfulRecord.{HaveShapes}
use Rattle.nvm_audit.specs.RecordedPart.{RecordedPart, parts_of_workers}
use Rattle.nvm_audit.specs.RecordView.{RecordView}
use Rattle.nvm_audit.specs.UnitChecks.{HasNoUnitFault, IsFirstUnitFault}
use Rattle.nvm_audit.specs.UnitView.{view_of_unit}

-- The unit can be audited by itself: its done jobs have their shapes, and these are its parts and those of the others.
pub record CanBeAudited (r : RecordView) (groups : List (List RecordedPart)) (unit : ℕ) : Type 0 where
  pub there : unit < length r.units
  pub shapes : HaveShapes r
  pub grouped : AreGrouped (length r.units) (parts_of_workers 0 r.done) groups

-- It is the first fault of the unit, or none where nothing is wrong there.
abbrev pub IsFoundIn : RecordView → ℕ → Option AuditFault → Type 0
IsFoundIn r unit found =
    (history : List HistoryEntry) → IsAt r.units unit history
    → MatchOption found (HasNoUnitFault (view_of_unit r unit history)) (IsFirstUnitFault (view_of_unit r unit history))
