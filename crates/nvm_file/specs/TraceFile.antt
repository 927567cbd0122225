-- Traces' files.
use Rattle.std.specs.Prelude.{◌≡◌, ℕ, List, Ok}
use Rattle.nvm_trace.specs.TraceView.{TraceView}
use Rattle.nvm_file.specs.TraceReading.{trace_at}

-- The bytes are a file of the trace. They are of no other, since they read as one thing alone.
abbrev pub IsTraceFile : List ℕ → TraceView → Type 0
IsTraceFile bytes t = trace_at bytes ≡ Ok t
