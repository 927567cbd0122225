-- What is answered of the bytes of a trace's file and of a record's file, where the record is to explain the trace.
use Rattle.std.specs.Prelude.{◌≡◌, ◌≢◌, ◌⊎◌, ℕ, List, Result, Ok, Err}
use Rattle.nvm_audit.specs.RecordView.{RecordView}
use Rattle.nvm_file.specs.RecordFile.{IsRecordFile}
use Rattle.nvm_file.specs.TraceFile.{IsTraceFile}
use Rattle.nvm_file.specs.TraceReading.{trace_at}
use Rattle.nvm_file.specs.declared.trace_file_fault.TraceFileFault.{TraceFileFault}
use Rattle.nvm_trace.specs.ExplainedBy.{IsExplainedBy}
use Rattle.nvm_trace.specs.FirstFault.{IsFirstWitnessFault}
use Rattle.nvm_trace.specs.Numbers.{HasNumbers}
use Rattle.nvm_trace.specs.TraceView.{TraceView}
use Rattle.nvm_trace.specs.declared.explained.Explained.{Explained}
use Rattle.nvm_trace.specs.declared.judging.Judging.{Judging}
use Rattle.nvm_trace.specs.declared.witness_fault.WitnessFault.{WitnessFault}
use Rattle.nvm_trace.specs.declared.witness_fault.WitnessFault.TheVariants.{NoMemory as NoMemoryFault}
use Rattle.nvm_engine.specs.Fault.{fault_of_trace}
use Rattle.nvm_engine.specs.Judged.{IsUnreadFault}
use Rattle.nvm_engine.specs.declared.fault.Fault.{Fault}
use Rattle.nvm_engine.specs.declared.fault.Fault.TheVariants.{NoMemory}

-- The answer is one on the two: it isn't want of memory.
abbrev pub IsKnownAnswer : Result Explained WitnessFault → Type 0
IsKnownAnswer answer = answer ≢ Err NoMemoryFault

-- the exit status
abbrev pub witness_status : Result Explained WitnessFault → ℕ
witness_status (Ok e) = 0
witness_status (Err fault) = 2

-- The record explains the trace, with these numbers; or the fault is the first.
abbrev pub IsWitnessedAs : Judging → TraceView → RecordView → Result Explained WitnessFault → Type 0
IsWitnessedAs judging t r (Ok numbers) = IsExplainedBy judging t r × HasNumbers judging t r numbers
IsWitnessedAs judging t r (Err fault) = IsFirstWitnessFault judging t r fault

-- The bytes are the files of a trace and of a record, of which this is answered.
pub record IsWitnessed (judging : Judging) (trace run : List ℕ) (answer : Result Explained WitnessFault) : Type 0 where
  pub seen : TraceView
  pub seen_file : IsTraceFile trace seen
  pub held : RecordView
  pub held_file : IsRecordFile run held
  pub witnessed : IsWitnessedAs judging seen held answer

-- It is the first fault of the bytes as a trace's file.
abbrev pub IsTraceFault : List ℕ → Fault → Type 0
IsTraceFault trace fault = (of : TraceFileFault) × (trace_at trace ≡ Err of) × (fault ≡ fault_of_trace of)

-- It is the first fault of the trace's file, or else, where that is one, of the record's. Or memory was refused.
abbrev pub IsUnwitnessedFault : List ℕ → List ℕ → Fault → Type 0
IsUnwitnessedFault trace run fault =
    IsTraceFault trace fault ⊎ ((((t : TraceView) × IsTraceFile trace t) × IsUnreadFault run fault) ⊎ (fault ≡ NoMemory))
