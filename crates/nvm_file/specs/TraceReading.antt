-- A whole trace's file, read from its front: what stands before the jobs, and the jobs.
use Rattle.std.specs.Prelude.{ℕ, List, [], ◌∷◌, length, Result, Ok, Err}
use Rattle.nvm_trace.specs.declared.traced_job.TracedJob.{TracedJob}
use Rattle.nvm_trace.specs.TraceView.{TraceView}
use Rattle.nvm_file.specs.declared.trace_file_fault.TraceFileFault.{TraceFileFault}
use Rattle.nvm_file.specs.declared.trace_file_fault.TraceFileFault.TheVariants.{Trailing}
use Rattle.nvm_file.specs.declared.trace_frame.TraceFrame.{TraceFrame}
use Rattle.nvm_file.specs.Fields.{◌>>=◌, items_at, offset}
use Rattle.nvm_file.specs.TracedJobReading.{traced_at}
use Rattle.nvm_file.specs.TraceFields.{in_trace}
use Rattle.nvm_file.specs.TraceHeadReading.{trace_head_at}

-- the trace of these jobs
abbrev pub trace_with : TraceFrame → List TracedJob → TraceView
trace_with head jobs =
    record {
      namespace = head.scope.geometry;
      first = head.first;
      start = head.start;
      reads = head.reads;
      deallocated = head.deallocated;
      jobs = jobs;
    }

-- the trace, where nothing stands behind it
abbrev pub whole_trace : ℕ → TraceView → List ℕ → Result TraceView TraceFileFault
whole_trace total t [] = Ok t
whole_trace total t (b ∷ bs) = Err (Trailing (offset total (b ∷ bs)))

-- what stands behind the head
unfoldable pub trace_behind : TraceFrame → List ℕ → Result TraceView TraceFileFault
trace_behind head bytes = do
  jobs ← items_at (λ _. traced_at head.scope) 0 head.jobs bytes
  whole_trace head.scope.total (trace_with head jobs.0) jobs.1

-- what the bytes of a file read as: its trace, or the first fault that is met
unfoldable pub trace_at : List ℕ → Result TraceView TraceFileFault
trace_at bytes = do
  head ← in_trace (trace_head_at (length bytes) bytes)
  trace_behind head.0 head.1
