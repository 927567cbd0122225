-- The numbers of a trace fit the fields that its file has for them (own). Each `Trace` fits, by the types of its numbers, but for one
-- time: the file has no spelling of an end at the highest of 64 bits, which stands for an end that wasn't seen.
use Rattle.std.specs.Prelude.{◌^◌, ◌<◌, All, IfSome}
use Rattle.nvm_trace.specs.declared.traced_job.Ending.{Ending}
use Rattle.nvm_trace.specs.declared.traced_job.TracedJob.{TracedJob}
use Rattle.nvm_trace.specs.TraceView.{TraceView}
use Rattle.nvm_file.specs.Fits.{JobFits, NumbersFit, StatusesFit}
use Rattle.nvm_file.specs.TracedJobReading.{never}

-- The time can be spelled, and so can the statuses.
pub record EndingFits (e : Ending) : Type 0 where
  pub time : e.time < never
  pub statuses : StatusesFit e.statuses

pub record TracedJobFits (j : TracedJob) : Type 0 where
  pub job : JobFits j.job
  pub began : j.began < 2 ^ 64
  pub ended : IfSome j.ended EndingFits

-- Each number of the trace fits its field.
pub record TraceFits (t : TraceView) : Type 0 where
  pub namespace : NumbersFit t.namespace
  pub first : t.first < 2 ^ 64
  pub jobs : All TracedJobFits t.jobs
