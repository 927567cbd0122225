-- What a search through some checks of a record finds.
use Rattle.std.specs.Prelude.{◌≡◌, List, Option, Some, None}
use Rattle.std.specs.List.{AllByRecursion}
use Rattle.nvm_audit.specs.declared.audit_fault.AuditFault.{AuditFault}
use Rattle.nvm_audit.specs.FirstFailed.{IsFirstFailed}
use Rattle.nvm_audit.specs.RecordChecks.{RecordCheck, Passes, fault_of}
use Rattle.nvm_audit.specs.RecordView.{RecordView}

-- The fault is what the first of these checks finds that doesn't pass.
pub record IsFirstOf (r : RecordView) (checks : List RecordCheck) (fault : AuditFault) : Type 0 where
  pub check : RecordCheck
  pub first : IsFirstFailed (Passes r) checks check
  pub is : fault ≡ fault_of check

-- It is the first fault that these checks find, or none where all of them pass.
abbrev pub IsFound : RecordView → List RecordCheck → Option AuditFault → Type 0
IsFound r checks None = AllByRecursion (Passes r) checks
IsFound r checks (Some fault) = IsFirstOf r checks fault
