use Rattle.std.proofs.Common.{◌≤◌, ◌+◌, length}
use Rattle.nvm_list.specs.Rest.{parts_left, bytes_left}
use Rattle.nvm_list.specs.Words.{is, text_lines}
use Rattle.nvm_trace.specs.TraceView.{TraceView}
use Rattle.nvm_trace_text.specs.Texts.{Say, Fail}
use Rattle.nvm_trace_text.specs.declared.fault.TextFault.{TextFault}
use Rattle.nvm_trace_text.proofs.reading.trace_of_text.Given as goal

-- what the lines that are left say, all of them say
abbrev pub invariant-loop-rest : goal.invariant-loop-rest
invariant-loop-rest l = record {
  said : (t : TraceView) → Say (parts_left (is 10) l.rest) t → Say (text_lines l.text) t;
  fails : (f : TextFault) → Fail (l.line + 1) (parts_left (is 10) l.rest) f → Fail 1 (text_lines l.text) f;
  room : l.line + bytes_left l.rest ≤ length l.text + 1;
}

abbrev pub decreases-loop-rest : goal.decreases-loop-rest
decreases-loop-rest l = bytes_left l.rest
