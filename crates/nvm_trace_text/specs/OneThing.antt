-- A text says one trace or has a fault, and never both.
use Rattle.std.specs.Prelude.{◌≡◌, ℕ, List}
use Rattle.nvm_trace.specs.TraceView.{TraceView}
use Rattle.nvm_trace_text.specs.Texts.{IsTextOf, IsTextFault}
use Rattle.nvm_trace_text.specs.declared.fault.TextFault.{TextFault}

-- No text says two traces.
abbrev pub TextsSayOneTrace : Type 0
TextsSayOneTrace = (text : List ℕ) (t u : TraceView) → IsTextOf text t → IsTextOf text u → t ≡ u

-- No text says a trace and has a fault.
abbrev pub TextsOfTracesHaveNoFault : Type 0
TextsOfTracesHaveNoFault = (text : List ℕ) (t : TraceView) (fault : TextFault) → IsTextOf text t → ¬ (IsTextFault text fault)
