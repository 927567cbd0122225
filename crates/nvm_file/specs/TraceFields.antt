-- Fields of a trace's file. They are read as those of a record file are, and a fault of theirs has the trace file's name.
use Rattle.std.specs.Prelude.{◌≡◌, Result, Ok, Err}
use Rattle.nvm_file.specs.declared.record_fault.RecordFault.{RecordFault}
use Rattle.nvm_file.specs.declared.record_fault.RecordFault.TheVariants as fault
use Rattle.nvm_file.specs.declared.trace_file_fault.TraceFileFault.{TraceFileFault}
use Rattle.nvm_file.specs.declared.trace_file_fault.TraceFileFault.TheVariants.{BadName, Truncated, Trailing, BadValue, NoMemory}
use Rattle.nvm_file.specs.Fields.{GivesUnless}

-- The name and the version of a record file are the name of a trace's file: no reading of one meets an unknown version.
abbrev pub fault_of : RecordFault → TraceFileFault
fault_of fault.BadName = BadName
fault_of fault.Version = BadName
fault_of (fault.Truncated at) = Truncated at
fault_of (fault.Trailing at) = Trailing at
fault_of (fault.BadValue at) = BadValue at
fault_of fault.NoMemory = NoMemory

-- what is read, in a trace's file
abbrev pub in_trace : {A : Type 0} → Result A RecordFault → Result A TraceFileFault
in_trace (Ok x) = Ok x
in_trace (Err e) = Err (fault_of e)

-- What a function answers, seen by `view`, is what is read, unless memory runs out.
abbrev pub GivesTraced : {X Y : Type 0} → (X → Y) → Result X TraceFileFault → Result Y TraceFileFault → Type 0
GivesTraced view answer read = GivesUnless (λ e. e ≡ NoMemory) view answer read
