-- What is listed of a file, and what is answered in place of it: a file that begins with `NVR` is a record, one that begins with
-- `NVT` is a trace, any other is a host file.
use Rattle.std.specs.Prelude.{◌≡◌, ℕ, Bool, true, false, String, List, ◌++◌, take, codes, Result, Ok}
use Rattle.std.specs.Global.{Global}
use Rattle.std.specs.Str.{bytes_eq}
use Rattle.nvm_record.specs.HostFile.{IsHostFile}
use Rattle.nvm_record.specs.declared.command.Command.{Command}
use Rattle.nvm_audit.specs.RecordView.{RecordView}
use Rattle.nvm_audit.specs.declared.audit_fault.AuditFault.{AuditFault}
use Rattle.nvm_audit.specs.declared.verdict.Verdict.{Verdict}
use Rattle.nvm_engine.specs.Judged.{IsJudgedAs}
use Rattle.nvm_engine.specs.VerdictObject.{answer_object}
use Rattle.nvm_file.specs.Reading.{record_at}
use Rattle.nvm_file.specs.TraceFile.{IsTraceFile}
use Rattle.nvm_list.specs.Listing.{listing}
use Rattle.nvm_trace.specs.TraceView.{TraceView}
use Rattle.nvm_trace_text.specs.Listing.{text_of}
use Rattle.nvm_commands.specs.Fault.{IsFaultOfFile, IsFaultOfRecord, IsFaultOfTrace}
use Rattle.nvm_commands.specs.declared.fault.Fault.{Fault}

abbrev pub begins_as_record : List ℕ → Bool
begins_as_record file = bytes_eq (take 3 file) (codes "NVR")

abbrev pub begins_as_trace : List ℕ → Bool
begins_as_trace file = bytes_eq (take 3 file) (codes "NVT")

-- The file holds a record.
abbrev pub HoldsRecord : List ℕ → Type 0
HoldsRecord file = (run : RecordView) × (record_at file ≡ Ok run)

-- The text lists the commands of the host file.
abbrev pub ListsCommands : ℕ → List ℕ → List ℕ → Type 0
ListsCommands size file text = (cs : List Command) × IsHostFile size file cs × (text ≡ listing cs)

-- The text is that of the trace that the file holds.
abbrev pub ListsTrace : List ℕ → List ℕ → Type 0
ListsTrace file text = (t : TraceView) × IsTraceFile file t × (text ≡ text_of t)

-- The file holds a record, or else a trace, or else a host file, and of the latter two the text lists what it holds.
abbrev pub ListsAs : Bool → Bool → ℕ → List ℕ → List ℕ → Type 0
ListsAs true trace size file text = HoldsRecord file
ListsAs false true size file text = ListsTrace file text
ListsAs false false size file text = ListsCommands size file text

abbrev pub Lists : ℕ → List ℕ → List ℕ → Type 0
Lists size file text = ListsAs (begins_as_record file) (begins_as_trace file) size file text

-- The fault of a file, which should be a record, or else a trace, or else a host file, or want of memory.
abbrev pub IsListFaultAs : Bool → Bool → String Global → ℕ → List ℕ → Fault → Type 0
IsListFaultAs true trace path size file e = IsFaultOfRecord path file e
IsListFaultAs false true path size file e = IsFaultOfTrace path file e
IsListFaultAs false false path size file e = IsFaultOfFile path size file e

abbrev pub IsListFault : String Global → ℕ → List ℕ → Fault → Type 0
IsListFault path size file e = IsListFaultAs (begins_as_record file) (begins_as_trace file) path size file e

-- The text ends with the object of what an audit answers of the record that a file holds. What is in the file no definition can say,
-- so its bytes are some.
pub record AreObjectsOfFile (text : List ℕ) : Type 0 where
  pub file : List ℕ
  pub run : RecordView
  pub holds : record_at file ≡ Ok run
  pub answer : Result Verdict AuditFault
  pub judged : IsJudgedAs run answer
  pub objects : List ℕ
  pub whole : text ≡ objects ++ answer_object answer
