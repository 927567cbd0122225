-- What is said of bytes that are no trace's file, or no evidence of the kind that is asked for: the first fault from the front, as `nvmu` says it
-- after its name.
use Rattle.std.specs.Prelude.{List, ℕ, [], ◌++◌, codes, decimal}
use Rattle.nvm_file.specs.declared.trace_file_fault.TraceFileFault.{TraceFileFault}
use Rattle.nvm_file.specs.declared.trace_file_fault.TraceFileFault.TheVariants as of_trace
use Rattle.nvm_evidence.specs.declared.evidence_fault.EvidenceFault.{EvidenceFault}
use Rattle.nvm_evidence.specs.declared.evidence_fault.EvidenceFault.TheVariants as of_evidence

-- The line of a fault. Want of memory is no fault of the bytes, and has none.
unfoldable pub trace_fault_line : TraceFileFault → List ℕ
trace_fault_line of_trace.BadName = codes "trace: bad name\n"
trace_fault_line (of_trace.Truncated at) = codes "trace: truncated at " ++ (decimal at ++ codes "\n")
trace_fault_line (of_trace.Trailing at) = codes "trace: trailing at " ++ (decimal at ++ codes "\n")
trace_fault_line (of_trace.BadValue at) = codes "trace: bad value at " ++ (decimal at ++ codes "\n")
trace_fault_line (of_trace.BeganAtZero at) = codes "trace: began at zero at " ++ (decimal at ++ codes "\n")
trace_fault_line (of_trace.EndedBefore at) = codes "trace: ended before at " ++ (decimal at ++ codes "\n")
trace_fault_line of_trace.NoMemory = []

-- The same of evidence of a kind, `order` or `contradiction`.
unfoldable pub evidence_fault_line : List ℕ → EvidenceFault → List ℕ
evidence_fault_line kind of_evidence.BadName = kind ++ codes ": bad name\n"
evidence_fault_line kind (of_evidence.Truncated at) = kind ++ (codes ": truncated at " ++ (decimal at ++ codes "\n"))
evidence_fault_line kind (of_evidence.Trailing at) = kind ++ (codes ": trailing at " ++ (decimal at ++ codes "\n"))
evidence_fault_line kind (of_evidence.BadValue at) = kind ++ (codes ": bad value at " ++ (decimal at ++ codes "\n"))
evidence_fault_line kind of_evidence.NoMemory = []
