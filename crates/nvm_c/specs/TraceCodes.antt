-- The numbers by which C knows what is answered where a trace is judged. Those below 22 are the numbers of other calls, too.
use Rattle.std.specs.Prelude.{ℤ, pos}
use Rattle.nvm_c.specs.declared.trace_code.TraceCode.{TraceCode}
use Rattle.nvm_c.specs.declared.trace_code.TraceCode.TheVariants.{Explained, Refuted, NoMemory, BadRecord, ShortRoom, Unexplained, Unrefuted, BadTrace, BadContradiction}

abbrev pub trace_number : TraceCode → ℤ
trace_number Explained = pos 0
trace_number Refuted = pos 0
trace_number NoMemory = pos 4
trace_number BadRecord = pos 17
trace_number ShortRoom = pos 18
trace_number Unexplained = pos 22
trace_number Unrefuted = pos 23
trace_number BadTrace = pos 24
trace_number BadContradiction = pos 25
