-- The text of a trace says that very trace, just where one can.
use Rattle.std.specs.Prelude.{ℕ, List}
use Rattle.nvm_trace.specs.TraceView.{TraceView}
use Rattle.nvm_trace.specs.Traceable.{IsTraceable}
use Rattle.nvm_trace_text.specs.Listing.{text_of}
use Rattle.nvm_trace_text.specs.Spelled.{HasNumbersInRange, AllEndBeforeLast}
use Rattle.nvm_trace_text.specs.Texts.{IsTextOf}

-- The text that is written of a trace says this trace.
abbrev pub TextsAreReadBack : Type 0
TextsAreReadBack = (t : TraceView) → IsTraceable t → HasNumbersInRange t → AllEndBeforeLast t → IsTextOf (text_of t) t

-- Whatever trace a text says, none of its jobs ended at 2 ^ 64 - 1.
abbrev pub TextsEndBeforeLast : Type 0
TextsEndBeforeLast = (text : List ℕ) (t : TraceView) → IsTextOf text t → AllEndBeforeLast t
