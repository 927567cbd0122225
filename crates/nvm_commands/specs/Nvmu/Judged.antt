-- The first faults of the bytes that are judged, and what is said of files at paths. What is in a file no definition can say, so there
-- the files' bytes are some.
use Rattle.std.specs.Prelude.{◌⊎◌, ℕ, List, Result}
use Rattle.nvm_audit.specs.declared.audit_fault.AuditFault.{AuditFault}
use Rattle.nvm_audit.specs.declared.verdict.Verdict.{Verdict}
use Rattle.nvm_engine.specs.Judged.{IsJudged, IsUnreadFault}
use Rattle.nvm_engine.specs.Witnessed.{IsUnwitnessedFault}
use Rattle.nvm_evidence.specs.Refuted.{AreRefutedFiles as AreRefutedBytes, IsRefuteFault as IsFaultOfBytes}
use Rattle.nvm_evidence.specs.Witnessed.{IsOrderFault}
use Rattle.nvm_evidence.specs.declared.refuted.Refuted.{Refuted}
use Rattle.nvm_commands.specs.Files.{IsReadFault}
use Rattle.nvm_commands.specs.declared.fault.Fault.{Fault}
use Rattle.nvm_commands.specs.declared.fault.Fault.TheVariants.{Engine, Order, Refute}

-- It is the first fault of exactly these bytes as a record.
abbrev pub IsAuditFault : List ℕ → Fault → Type 0
IsAuditFault bytes (Engine fault) = IsUnreadFault bytes fault
IsAuditFault bytes fault = ⊥

-- It is the first fault of exactly these bytes: of the one as a trace, or of the other as a record, or as an order.
abbrev pub IsWitnessFault : List ℕ → List ℕ → Fault → Type 0
IsWitnessFault seen held (Engine fault) = IsUnwitnessedFault seen held fault
IsWitnessFault seen held (Order fault) = IsOrderFault seen held fault
IsWitnessFault seen held fault = ⊥

-- It is the first fault of exactly these bytes: of the one as a trace, or of the other as a contradiction.
abbrev pub IsRefuteFault : List ℕ → List ℕ → Fault → Type 0
IsRefuteFault seen held (Refute fault) = IsFaultOfBytes seen held fault
IsRefuteFault seen held fault = ⊥

-- It is the answer of an audit of a file's bytes.
abbrev pub IsJudgedFile : Result Verdict AuditFault → Type 0
IsJudgedFile answer = (bytes : List ℕ) × IsJudged bytes answer

-- The file at this path couldn't be read, or else it is the first fault of its bytes as a record.
abbrev pub IsJudgeFaultOn : List ℕ → Fault → Type 0
IsJudgeFaultOn path fault = IsReadFault path fault ⊎ ((bytes : List ℕ) × IsAuditFault bytes fault)

-- One of the files at these paths couldn't be read.
abbrev pub IsPairFault : List ℕ → List ℕ → Fault → Type 0
IsPairFault trace other fault = IsReadFault trace fault ⊎ IsReadFault other fault

-- One of the files at these paths couldn't be read, or else it is the first fault of the bytes of two files.
abbrev pub IsWitnessFaultOn : List ℕ → List ℕ → Fault → Type 0
IsWitnessFaultOn trace run fault =
    IsPairFault trace run fault ⊎ ((seen : List ℕ) × (held : List ℕ) × IsWitnessFault seen held fault)

-- It is what the contradiction of a file says of the trace of another.
abbrev pub AreRefutedFiles : Refuted → Type 0
AreRefutedFiles answer = (seen : List ℕ) × (held : List ℕ) × AreRefutedBytes seen held answer

-- One of the files at these paths couldn't be read, or else it is the first fault of the bytes of two files.
abbrev pub IsRefuteFaultOn : List ℕ → List ℕ → Fault → Type 0
IsRefuteFaultOn trace contradiction fault =
    IsPairFault trace contradiction fault ⊎ ((seen : List ℕ) × (held : List ℕ) × IsRefuteFault seen held fault)
