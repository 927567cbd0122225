-- Which trace the bytes say that were read from a path: they are its file where they begin with `NV`, and else its text.
use Rattle.std.specs.Prelude.{ℕ, Bool, true, false, List, take, codes}
use Rattle.std.specs.Str.{bytes_eq}
use Rattle.nvm_file.specs.TraceFile.{IsTraceFile}
use Rattle.nvm_trace.specs.TraceView.{TraceView}
use Rattle.nvm_trace_text.specs.Texts.{IsTextOf}

abbrev pub begins_as_file : List ℕ → Bool
begins_as_file bytes = bytes_eq (take 2 bytes) (codes "NV")

abbrev pub SaysTraceAs : Bool → List ℕ → TraceView → Type 0
SaysTraceAs true bytes t = IsTraceFile bytes t
SaysTraceAs false bytes t = IsTextOf bytes t

-- The bytes say the trace.
abbrev pub SaysTrace : List ℕ → TraceView → Type 0
SaysTrace bytes t = SaysTraceAs (begins_as_file bytes) bytes t
