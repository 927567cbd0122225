-- Why there is no explanation of a record's file, or of those of a trace and of evidence, which is a record, an order or a contradiction.
use Rattle.std.specs.Prelude.{◌⊎◌, ℕ, List, string_bytes}
use Rattle.nvm_trace.specs.TraceView.{TraceView}
use Rattle.nvm_commands.specs.Audited.{IsUnwitnessed}
use Rattle.nvm_commands.specs.Fault.{IsFaultOfEvidenceAt, IsFaultOfRecordAt, IsFaultOfRecordIn, IsFaultOfTraceIn}
use Rattle.nvm_commands.specs.Files.{IsReadFault}
use Rattle.nvm_commands.specs.Traced.{SaysTrace}
use Rattle.nvm_commands.specs.declared.explaining_words.ExplainWords.{ExplainWords}
use Rattle.nvm_commands.specs.declared.explaining_words.ExplainWords.TheVariants.{Record, Trace}
use Rattle.nvm_commands.specs.declared.fault.Fault.{Fault}

-- It is the fault of the trace, or else, where these bytes say one, of the evidence, each at its path and with its bytes.
abbrev pub IsStoryFault : List ℕ → List ℕ → List ℕ → List ℕ → Fault → Type 0
IsStoryFault trace seen run held fault =
    IsFaultOfTraceIn trace seen fault
    ⊎ (((t : TraceView) × SaysTrace seen t) × (IsFaultOfRecordIn run held fault ⊎ IsFaultOfEvidenceAt run fault))

-- What the words name couldn't be read, or else it is the first fault of a file, or both are standard input.
abbrev pub IsUntold : ExplainWords → Fault → Type 0
IsUntold (Record path) fault = IsReadFault (string_bytes path) fault ⊎ IsFaultOfRecordAt (string_bytes path) fault
IsUntold (Trace judging trace path) fault = IsUnwitnessed (string_bytes trace) (string_bytes path) fault
