-- The faults of lists, of host files and of records, as the program prints them.
use Rattle.std.specs.Prelude.{◌≡◌, ◌⊎◌, ℕ, Bool, true, false, String, List, Err, string_bytes}
use Rattle.std.specs.Global.{Global}
use Rattle.nvm_record.specs.declared.host_fault.HostFault.{HostFault}
use Rattle.nvm_record.specs.declared.host_fault.HostFault.TheVariants as of_file
use Rattle.nvm_record.specs.HostFile.{IsAnsweredFault}
use Rattle.nvm_list.specs.Lists.{commands}
use Rattle.nvm_list.specs.declared.fault.ListFault.{ListFault}
use Rattle.nvm_list.specs.declared.fault.ListFault.TheVariants as of_list
use Rattle.nvm_evidence.specs.declared.evidence_fault.EvidenceFault.{EvidenceFault}
use Rattle.nvm_evidence.specs.declared.evidence_fault.EvidenceFault.TheVariants as of_evidence
use Rattle.nvm_file.specs.Reading.{record_at}
use Rattle.nvm_file.specs.declared.record_fault.RecordFault.{RecordFault}
use Rattle.nvm_file.specs.declared.record_fault.RecordFault.TheVariants as of_record
use Rattle.nvm_file.specs.TraceReading.{trace_at}
use Rattle.nvm_file.specs.declared.trace_file_fault.TraceFileFault.{TraceFileFault}
use Rattle.nvm_file.specs.declared.trace_file_fault.TraceFileFault.TheVariants as of_trace
use Rattle.nvm_trace_text.specs.Texts.{IsTextFault}
use Rattle.nvm_trace_text.specs.declared.fault.TextFault.{TextFault}
use Rattle.nvm_trace_text.specs.declared.fault.TextFault.TheVariants as of_text
use Rattle.nvm_commands.specs.Traced.{begins_as_file}
use Rattle.nvm_commands.specs.declared.fault.Fault.{Fault}
use Rattle.nvm_commands.specs.declared.fault.Fault.TheVariants.{Line, TraceLine, NoHead, BadName, Truncated, TooMany, UnknownVersion, Trailing, BadValue, BeganAtZero, EndedBefore, NoMemory}

-- a list's fault has its line
abbrev pub fault_of_list : ListFault → Fault
fault_of_list (of_list.Line line expected) = Line line expected
fault_of_list of_list.NoMemory = NoMemory

-- a host file's fault has its path
abbrev pub fault_of_file : String Global → HostFault → Fault
fault_of_file path of_file.BadName = BadName path
fault_of_file path (of_file.Truncated at) = Truncated path at
fault_of_file path of_file.TooMany = TooMany path
fault_of_file path of_file.NoMemory = NoMemory

-- a record's fault has its path
abbrev pub fault_of_record : String Global → RecordFault → Fault
fault_of_record path of_record.BadName = BadName path
fault_of_record path of_record.Version = UnknownVersion path
fault_of_record path (of_record.Truncated at) = Truncated path at
fault_of_record path (of_record.Trailing at) = Trailing path at
fault_of_record path (of_record.BadValue at) = BadValue path at
fault_of_record path of_record.NoMemory = NoMemory

-- a trace's fault has its path
abbrev pub fault_of_trace : String Global → TraceFileFault → Fault
fault_of_trace path of_trace.BadName = BadName path
fault_of_trace path (of_trace.Truncated at) = Truncated path at
fault_of_trace path (of_trace.Trailing at) = Trailing path at
fault_of_trace path (of_trace.BadValue at) = BadValue path at
fault_of_trace path (of_trace.BeganAtZero at) = BeganAtZero path at
fault_of_trace path (of_trace.EndedBefore at) = EndedBefore path at
fault_of_trace path of_trace.NoMemory = NoMemory

-- the fault of an order or a contradiction has its path
abbrev pub fault_of_evidence : String Global → EvidenceFault → Fault
fault_of_evidence path of_evidence.BadName = BadName path
fault_of_evidence path (of_evidence.Truncated at) = Truncated path at
fault_of_evidence path (of_evidence.Trailing at) = Trailing path at
fault_of_evidence path (of_evidence.BadValue at) = BadValue path at
fault_of_evidence path of_evidence.NoMemory = NoMemory

-- the fault of a trace's text has its line, if it has one
abbrev pub fault_of_text : TextFault → Fault
fault_of_text (of_text.Line line expected) = TraceLine line expected
fault_of_text of_text.NoHead = NoHead
fault_of_text of_text.NoMemory = NoMemory

-- The fault of a trace's text, or want of memory.
abbrev pub IsFaultOfText : List ℕ → Fault → Type 0
IsFaultOfText text e = ((f : TextFault) × IsTextFault text f × (e ≡ fault_of_text f)) ⊎ (e ≡ NoMemory)

-- The first fault of the trace at a path, or want of memory.
abbrev pub IsFaultOfTrace : String Global → List ℕ → Fault → Type 0
IsFaultOfTrace path file e = ((f : TraceFileFault) × (trace_at file ≡ Err f) × (e ≡ fault_of_trace path f)) ⊎ (e ≡ NoMemory)

-- The fault of a list, or want of memory.
abbrev pub IsFaultOfList : ℕ → List ℕ → Fault → Type 0
IsFaultOfList size list e = ((f : ListFault) × (commands size list ≡ Err f) × (e ≡ fault_of_list f)) ⊎ (e ≡ NoMemory)

-- The fault of the host file at a path, or want of memory.
abbrev pub IsFaultOfFile : String Global → ℕ → List ℕ → Fault → Type 0
IsFaultOfFile path size file e = (f : HostFault) × IsAnsweredFault size file f × (e ≡ fault_of_file path f)

-- The first fault of the record at a path, or want of memory.
abbrev pub IsFaultOfRecord : String Global → List ℕ → Fault → Type 0
IsFaultOfRecord path file e = ((f : RecordFault) × (record_at file ≡ Err f) × (e ≡ fault_of_record path f)) ⊎ (e ≡ NoMemory)

-- Want of memory, or else the first fault of the record in the file at this path, which has these bytes.
abbrev pub IsFaultOfRecordIn : List ℕ → List ℕ → Fault → Type 0
IsFaultOfRecordIn path file e = (e ≡ NoMemory) ⊎ ((shown : String Global) × (string_bytes shown ≡ path) × IsFaultOfRecord shown file e)

-- The same of some file.
abbrev pub IsFaultOfRecordAt : List ℕ → Fault → Type 0
IsFaultOfRecordAt path e = (file : List ℕ) × IsFaultOfRecordIn path file e

-- Want of memory, or else the first fault of the trace's file at this path, or of its text.
abbrev pub IsFaultOfTraceAs : Bool → List ℕ → List ℕ → Fault → Type 0
IsFaultOfTraceAs true path bytes e = (e ≡ NoMemory) ⊎ ((shown : String Global) × (string_bytes shown ≡ path) × IsFaultOfTrace shown bytes e)
IsFaultOfTraceAs false path bytes e = IsFaultOfText bytes e

-- The same of the trace that these bytes, which were read from this path, should say.
abbrev pub IsFaultOfTraceIn : List ℕ → List ℕ → Fault → Type 0
IsFaultOfTraceIn path bytes e = IsFaultOfTraceAs (begins_as_file bytes) path bytes e

-- The same of some bytes.
abbrev pub IsFaultOfTraceAt : List ℕ → Fault → Type 0
IsFaultOfTraceAt path e = (bytes : List ℕ) × IsFaultOfTraceIn path bytes e

-- Want of memory, or else a fault of the order or the contradiction at this path.
abbrev pub IsFaultOfEvidenceAt : List ℕ → Fault → Type 0
IsFaultOfEvidenceAt path e =
    (e ≡ NoMemory) ⊎ ((shown : String Global) × (string_bytes shown ≡ path) × ((f : EvidenceFault) × (e ≡ fault_of_evidence shown f)))
