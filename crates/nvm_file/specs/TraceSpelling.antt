-- The one spelling of a trace: all bytes of its file (own). All numbers are little endian.
use Rattle.std.specs.Prelude.{ℕ, ◌+◌, ◌*◌, List, [], ◌∷◌, ◌++◌, Option, Some, None}
use Rattle.byteorder.specs.Endian.{little_bytes}
use Rattle.nvm_trace.specs.declared.deallocated.Deallocated.{Deallocated}
use Rattle.nvm_trace.specs.declared.deallocated.Deallocated.TheVariants.{Zeroes as ZeroesRead, Ones, Either}
use Rattle.nvm_trace.specs.declared.reads.Reads.{Reads}
use Rattle.nvm_trace.specs.declared.reads.Reads.TheVariants.{Atomic, Whole, ByBlocks}
use Rattle.nvm_trace.specs.declared.start.Start.{Start}
use Rattle.nvm_trace.specs.declared.start.Start.TheVariants.{Zeroes, Unknown}
use Rattle.nvm_trace.specs.declared.traced_job.Ending.{Ending}
use Rattle.nvm_trace.specs.declared.traced_job.TracedJob.{TracedJob}
use Rattle.nvm_trace.specs.TraceView.{TraceView}
use Rattle.nvm_file.specs.Counted.{counted}
use Rattle.nvm_file.specs.HeadSpelling.{namespace_bytes}
use Rattle.nvm_file.specs.JobSpelling.{job_bytes}
use Rattle.nvm_file.specs.TracedJobReading.{never}
use Rattle.nvm_file.specs.TraceHeadReading.{trace_name}
use Rattle.nvm_file.specs.WorkSpelling.{payload_bytes, statuses_bytes}

abbrev pub start_byte : Start → ℕ
start_byte Zeroes = 0
start_byte Unknown = 1

abbrev pub reads_code : Reads → ℕ
reads_code Whole = 0
reads_code ByBlocks = 1
reads_code Atomic = 2

abbrev pub deallocated_code : Deallocated → ℕ
deallocated_code Either = 0
deallocated_code ZeroesRead = 1
deallocated_code Ones = 2

-- what the device promises
abbrev pub promise_byte : Reads → Deallocated → ℕ
promise_byte reads deallocated = reads_code reads + 3 * deallocated_code deallocated

-- the first LBA of the window, what was known of its blocks, and what the device promises
abbrev pub window_bytes : TraceView → List ℕ
window_bytes t = little_bytes 8 t.first ++ (start_byte t.start ∷ promise_byte t.reads t.deallocated ∷ [])

-- all that stands before the jobs
abbrev pub trace_head_bytes : TraceView → List ℕ
trace_head_bytes t = trace_name ++ (namespace_bytes t.namespace ++ window_bytes t)

-- when the job ended, and what came back
abbrev pub ending_bytes : Ending → List ℕ
ending_bytes e = little_bytes 8 e.time ++ (statuses_bytes e.statuses ++ payload_bytes e.payload)

-- the same, or that the end wasn't seen
abbrev pub ended_bytes : Option Ending → List ℕ
ended_bytes None = little_bytes 8 never
ended_bytes (Some e) = ending_bytes e

-- the job as in a record, when it began, and how it ended
abbrev pub traced_bytes : TracedJob → List ℕ
traced_bytes j = job_bytes j.job ++ (little_bytes 8 j.began ++ ended_bytes j.ended)

-- The head, and the jobs.
abbrev pub trace_bytes : TraceView → List ℕ
trace_bytes t = trace_head_bytes t ++ counted traced_bytes t.jobs
