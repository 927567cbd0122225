-- What contracts see of a trace's fields: a list without the room that it has.
use Rattle.nvm_trace.specs.declared.trace.Trace.TheInside.{Inside}
use Rattle.nvm_trace.specs.Traceable.{IsTraceable}
use Rattle.nvm_trace.specs.TraceView.{TraceView}

abbrev pub shown_by : Inside → TraceView
shown_by t =
    record { namespace = t.geometry; first = t.first; start = t.start; reads = t.reads; deallocated = t.deallocated; jobs = t.jobs.items }

abbrev pub IsTraceableAs : Inside → Type 0
IsTraceableAs t = IsTraceable (shown_by t)
