-- What C is told of bytes that should be a record's file: the code, and a line of text.
use Rattle.std.specs.Prelude.{◌≡◌, ◌⊎◌, ℕ, List, Result, Ok, Err}
use Rattle.nvm_audit.specs.LawfulRecord.{IsLawfulRecord}
use Rattle.nvm_audit.specs.RecordChecks.{IsFirstFault}
use Rattle.nvm_audit.specs.RecordView.{RecordView}
use Rattle.nvm_audit.specs.declared.audit_fault.AuditFault.{AuditFault}
use Rattle.nvm_audit.specs.declared.verdict.Verdict.{Verdict}
use Rattle.nvm_file.specs.Reading.{record_at}
use Rattle.nvm_file.specs.declared.record_fault.RecordFault.{RecordFault}
use Rattle.nvm_engine.specs.Judged.{IsJudgedAs}
use Rattle.nvm_engine.specs.VerdictLine.{answer_line}
use Rattle.nvm_c.specs.LineRoom.{IsInRoom, IsTooLong}
use Rattle.nvm_c.specs.UnreadLine.{unread_line}
use Rattle.nvm_c.specs.declared.audit_code.AuditCode.{AuditCode}
use Rattle.nvm_c.specs.declared.audit_code.AuditCode.TheVariants.{Lawful, Unlawful, BadRecord, NoMemory, ShortRoom}

-- the code of what an audit answers
abbrev pub code_of : Result Verdict AuditFault → AuditCode
code_of (Ok verdict) = Lawful
code_of (Err fault) = Unlawful

-- The code and the line are those of the record's verdict where it is lawful, and else those of its first fault.
pub record IsRuling (r : RecordView) (code : AuditCode) (line : List ℕ) : Type 0 where
  pub answer : Result Verdict AuditFault
  pub judged : IsJudgedAs r answer
  pub code_is : code ≡ code_of answer
  pub line_is : line ≡ answer_line answer
  pub accepted : IsLawfulRecord r → code ≡ Lawful
  pub named : (first : AuditFault) → IsFirstFault r first → (code ≡ Unlawful) × (answer ≡ Err first)

-- The bytes are no record's file, and the line tells their first fault.
pub record IsUnread (fault : RecordFault) (code : AuditCode) (line : List ℕ) : Type 0 where
  pub code_is : code ≡ BadRecord
  pub line_is : line ≡ unread_line fault

-- what is found in the bytes, by how they are read
abbrev pub IsFoundOf : Result RecordView RecordFault → AuditCode → List ℕ → Type 0
IsFoundOf (Ok r) code line = IsRuling r code line
IsFoundOf (Err fault) code line = IsUnread fault code line

-- What is found in the bytes, with its line.
abbrev pub IsFound : List ℕ → AuditCode → List ℕ → Type 0
IsFound bytes code line = IsFoundOf (record_at bytes) code line

-- What was found is told, or its line is too long.
abbrev pub IsAnswer : List ℕ → AuditCode → List ℕ → List ℕ → Type 0
IsAnswer bytes code old new =
    (found : AuditCode) × (line : List ℕ) × IsFound bytes found line
    × (((code ≡ found) × IsInRoom line old new) ⊎ ((code ≡ ShortRoom) × IsTooLong line old new))

-- What an audit of the bytes answers, unless memory was refused.
abbrev pub IsAudited : List ℕ → AuditCode → List ℕ → List ℕ → Type 0
IsAudited bytes code old new = IsAnswer bytes code old new ⊎ ((code ≡ NoMemory) × (new ≡ old))
