-- What is answered of the bytes of a record's file that is audited.
use Rattle.std.specs.Prelude.{◌≡◌, ◌≢◌, ◌⊎◌, ℕ, List, Result, Ok, Err}
use Rattle.nvm_audit.specs.LawfulRecord.{IsLawfulRecord}
use Rattle.nvm_audit.specs.RecordChecks.{IsFirstFault}
use Rattle.nvm_audit.specs.RecordView.{RecordView}
use Rattle.nvm_audit.specs.Verdict.{IsVerdict}
use Rattle.nvm_audit.specs.declared.audit_fault.AuditFault.{AuditFault}
use Rattle.nvm_audit.specs.declared.audit_fault.AuditFault.TheVariants.{NoMemory as NoMemoryFault}
use Rattle.nvm_audit.specs.declared.verdict.Verdict.{Verdict}
use Rattle.nvm_file.specs.Reading.{record_at}
use Rattle.nvm_file.specs.RecordFile.{IsRecordFile}
use Rattle.nvm_file.specs.declared.record_fault.RecordFault.{RecordFault}
use Rattle.nvm_engine.specs.Fault.{fault_of_record}
use Rattle.nvm_engine.specs.declared.fault.Fault.{Fault}
use Rattle.nvm_engine.specs.declared.fault.Fault.TheVariants.{NoMemory}

-- The answer is one on the record: it isn't want of memory.
abbrev pub IsKnown : Result Verdict AuditFault → Type 0
IsKnown answer = answer ≢ Err NoMemoryFault

-- The record is lawful, with the verdict's numbers; or the fault is its first.
abbrev pub IsJudgedAs : RecordView → Result Verdict AuditFault → Type 0
IsJudgedAs r (Ok verdict) = IsLawfulRecord r × IsVerdict r verdict
IsJudgedAs r (Err fault) = IsFirstFault r fault

-- The bytes are the file of a record that is judged so.
pub record IsJudged (bytes : List ℕ) (answer : Result Verdict AuditFault) : Type 0 where
  pub run : RecordView
  pub file : IsRecordFile bytes run
  pub judged : IsJudgedAs run answer

-- It is the first fault of the bytes as a record's file. Or memory was refused.
abbrev pub IsUnreadFault : List ℕ → Fault → Type 0
IsUnreadFault bytes fault = ((of : RecordFault) × (record_at bytes ≡ Err of) × (fault ≡ fault_of_record of)) ⊎ (fault ≡ NoMemory)
