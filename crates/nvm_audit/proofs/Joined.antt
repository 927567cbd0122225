-- The entries and the parts of a unit together.
use Rattle.std.proofs.Common.{[], Option, Some, None, MatchOption}
use Rattle.std.specs.List.{AllByRecursion}
use Rattle.nvm_audit.specs.declared.audit_fault.AuditFault.{AuditFault}
use Rattle.nvm_audit.specs.Inside.Audited.{IsFirstAmong}
use Rattle.nvm_audit.specs.UnitChecks.{PassesInUnit, entry_checks, part_checks, HasNoUnitFault, IsFirstUnitFault}
use Rattle.nvm_audit.specs.UnitView.{UnitView}
use Rattle.nvm_audit.proofs.Entered.{first_of_front, first_behind, all_of_both}

module _ (u : UnitView) where
  -- The first fault of the entries is the unit's.
  pub fault_of_entries : (fault : AuditFault) → IsFirstAmong u (entry_checks 0 u.history) fault → IsFirstUnitFault u fault
  fault_of_entries fault h =
      record {
        check = h.check;
        first = first_of_front (PassesInUnit u) (entry_checks 0 u.history) (part_checks [] u.parts) h.check h.first;
        is = h.is;
      }

  -- Where all entries are right, the first fault of the parts is the unit's, or there is none.
  pub with_parts : (found : Option AuditFault) → AllByRecursion (PassesInUnit u) (entry_checks 0 u.history)
      → MatchOption found (AllByRecursion (PassesInUnit u) (part_checks [] u.parts)) (IsFirstAmong u (part_checks [] u.parts))
      → MatchOption found (HasNoUnitFault u) (IsFirstUnitFault u)
  with_parts None entries h = all_of_both (PassesInUnit u) (entry_checks 0 u.history) (part_checks [] u.parts) entries h
  with_parts (Some fault) entries h =
      record {
        check = h.check;
        first = first_behind (PassesInUnit u) (entry_checks 0 u.history) (part_checks [] u.parts) h.check entries h.first;
        is = h.is;
      }
