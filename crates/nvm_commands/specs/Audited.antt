-- What an audit answers of the record of a file, what a witness answers of a trace and the file of a record or an order, and why nothing is. What
-- is in a file no definition can say, so its bytes are some.
use Rattle.std.specs.Prelude.{◌≡◌, ◌⊎◌, ℕ, true, List, Result, Ok}
use Rattle.nvm_audit.specs.declared.audit_fault.AuditFault.{AuditFault}
use Rattle.nvm_audit.specs.declared.verdict.Verdict.{Verdict}
use Rattle.nvm_audit.specs.RecordView.{RecordView}
use Rattle.nvm_engine.specs.Judged.{IsJudged}
use Rattle.nvm_engine.specs.VerdictLine.{answer_line, answer_status}
use Rattle.nvm_engine.specs.VerdictObject.{answer_object}
use Rattle.nvm_trace_text.specs.WitnessLine.{witness_line}
use Rattle.nvm_engine.specs.Witnessed.{IsWitnessedAs, witness_status}
use Rattle.nvm_evidence.specs.OrderedLine.{ordered_line, ordered_status}
use Rattle.nvm_evidence.specs.Witnessed.{IsOrdered}
use Rattle.nvm_evidence.specs.declared.ordered.Ordered.{Ordered}
use Rattle.nvm_listing.specs.AllFaults.{AreFaults, faults_status}
use Rattle.nvm_listing.specs.declared.faults.Faults.{Faults}
use Rattle.nvm_file.specs.Reading.{record_at}
use Rattle.nvm_file.specs.RecordFile.{IsRecordFile}
use Rattle.nvm_commands.specs.Standard.{names_input}
use Rattle.nvm_commands.specs.declared.front.judging_words.Telling.{Telling}
use Rattle.nvm_commands.specs.declared.front.judging_words.Telling.TheVariants.{Lines, Object}
use Rattle.nvm_trace.specs.declared.explained.Explained.{Explained}
use Rattle.nvm_standard.specs.OrderView.{OrderView}
use Rattle.nvm_standard.specs.declared.profile.Profile.{Profile}
use Rattle.nvm_trace.specs.TraceView.{TraceView}
use Rattle.nvm_trace.specs.declared.judging.Judging.{Judging}
use Rattle.nvm_trace.specs.declared.judging.Judging.TheVariants.{Standard}
use Rattle.nvm_trace.specs.declared.witness_fault.WitnessFault.{WitnessFault}
use Rattle.nvm_commands.specs.Fault.{IsFaultOfEvidenceAt, IsFaultOfRecordAt, IsFaultOfTraceAt}
use Rattle.nvm_commands.specs.Files.{IsReadFault}
use Rattle.nvm_commands.specs.Traced.{SaysTrace}
use Rattle.nvm_commands.specs.declared.fault.Fault.{Fault}
use Rattle.nvm_commands.specs.declared.fault.Fault.TheVariants.{InputTwice}
use Rattle.nvm_commands.specs.declared.told.Told.{Told}

-- how an audit is printed
abbrev pub answer_told : Telling → Result Verdict AuditFault → List ℕ
answer_told Lines = answer_line
answer_told Object = answer_object

-- The text and the status are those of what an audit answers of a file's record.
pub record IsAuditedFile (telling : Telling) (told : Told) : Type 0 where
  pub file : List ℕ
  pub answer : Result Verdict AuditFault
  pub judged : IsJudged file answer
  pub text : told.text.items ≡ answer_told telling answer
  pub status : told.status ≡ answer_status answer

-- The status is that of all that is wrong in a file's record, or of its verdict.
pub record AreFaultsOfFile (told : Told) : Type 0 where
  pub file : List ℕ
  pub run : RecordView
  pub holds : record_at file ≡ Ok run
  pub faults : Faults
  pub found : AreFaults run faults
  pub status : told.status ≡ faults_status faults

-- The text and the status are those of what a witness answers of the trace and the record that a file holds.
pub record IsToldByRecord (judging : Judging) (t : TraceView) (file : List ℕ) (told : Told) : Type 0 where
  pub run : RecordView
  pub holds : IsRecordFile file run
  pub answer : Result Explained WitnessFault
  pub witnessed : IsWitnessedAs judging t run answer
  pub text : told.text.items ≡ witness_line answer
  pub status : told.status ≡ witness_status answer

-- The text and the status are those of what is answered of the trace and some order.
pub record IsToldByOrder (t : TraceView) (told : Told) : Type 0 where
  pub profile : Profile
  pub order : OrderView
  pub answer : Ordered
  pub ordered : IsOrdered t profile order answer
  pub text : told.text.items ≡ ordered_line answer
  pub status : told.status ≡ ordered_status answer

-- They are those of the record that a file holds, or of an order, which judges by the standard alone.
abbrev pub IsWitnessedTrace : Judging → TraceView → List ℕ → Told → Type 0
IsWitnessedTrace judging t file told = IsToldByRecord judging t file told ⊎ ((judging ≡ Standard) × IsToldByOrder t told)

-- The same of the trace that the bytes at one path say, and of the file at another.
pub record AreWitnessedFiles (judging : Judging) (told : Told) : Type 0 where
  pub bytes : List ℕ
  pub seen : TraceView
  pub says : SaysTrace bytes seen
  pub file : List ℕ
  pub verdict : IsWitnessedTrace judging seen file told

-- Both paths name standard input.
abbrev pub IsInputTwice : List ℕ → List ℕ → Fault → Type 0
IsInputTwice trace run fault = (fault ≡ InputTwice) × (names_input trace ≡ true) × (names_input run ≡ true)

-- Both are standard input, or the trace or the other file couldn't be read, or else it is the first fault of the one or the other, as a
-- record or as evidence.
abbrev pub IsUnwitnessed : List ℕ → List ℕ → Fault → Type 0
IsUnwitnessed trace other fault =
    IsInputTwice trace other fault
    ⊎ ((IsReadFault trace fault ⊎ IsFaultOfTraceAt trace fault)
    ⊎ (IsReadFault other fault ⊎ (IsFaultOfRecordAt other fault ⊎ IsFaultOfEvidenceAt other fault)))
