-- What contracts see of a trace: what the hosts of a device saw of a run (own).
use Rattle.std.specs.Prelude.{ℕ, List}
use Rattle.nvm_geometry.specs.Namespace.{Namespace}
use Rattle.nvm_trace.specs.declared.deallocated.Deallocated.{Deallocated}
use Rattle.nvm_trace.specs.declared.reads.Reads.{Reads}
use Rattle.nvm_trace.specs.declared.start.Start.{Start}
use Rattle.nvm_trace.specs.declared.traced_job.TracedJob.{TracedJob}

-- The namespace or the traced window of it, the device's LBA at which it begins, what was known of its blocks when the trace began,
-- what Reads and Compares are held to, what a deallocated block may read as, and the jobs, each at the place of its number.
pub record TraceView : Type 0 where
  pub namespace : Namespace
  pub first : ℕ
  pub start : Start
  pub reads : Reads
  pub deallocated : Deallocated
  pub jobs : List TracedJob
