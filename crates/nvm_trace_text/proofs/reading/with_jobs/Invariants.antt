use Rattle.std.proofs.Common.{◌+◌, ◌^◌, ◌<◌}
use Rattle.nvm_list.specs.Rest.{parts_left, bytes_left}
use Rattle.nvm_list.specs.Words.{is}
use Rattle.nvm_trace.specs.TraceView.{TraceView}
use Rattle.nvm_trace_text.specs.Texts.{SayBehind, FailBehind}
use Rattle.nvm_trace_text.specs.declared.fault.TextFault.{TextFault}
use Rattle.nvm_trace_text.proofs.reading.with_jobs.Given as goal

-- what the lines that are left say behind the trace so far, all the lines say behind the empty one
abbrev pub invariant-loop-rest : goal.invariant-loop-rest
invariant-loop-rest l = record {
  said : (whole : TraceView) → SayBehind l.trace (parts_left (is 10) l.rest) whole → SayBehind l.fn.empty (parts_left (is 10) l.fn.lines) whole;
  fails : (f : TextFault) → FailBehind l.trace (l.line + 1) (parts_left (is 10) l.rest) f → FailBehind l.fn.empty (l.fn.before + 1) (parts_left (is 10) l.fn.lines) f;
  room : l.line + bytes_left l.rest < 2 ^ 64;
}

abbrev pub decreases-loop-rest : goal.decreases-loop-rest
decreases-loop-rest l = bytes_left l.rest
