-- When a trace can take one job more, and why not (own).
use Rattle.std.specs.Prelude.{◌≡◌, ◌<◌, ◌≤◌, length, IsSomeAnd}
use Rattle.nvm_plan.specs.Fits.{FitsNamespace}
use Rattle.nvm_plan.specs.Shape.{IsForEach}
use Rattle.nvm_audit.specs.declared.version.Version.TheVariants.{Two}
use Rattle.nvm_audit.specs.Recordable.{most_jobs, HoldsBody}
use Rattle.nvm_trace.specs.declared.trace_fault.TraceFault.{TraceFault}
use Rattle.nvm_trace.specs.declared.trace_fault.TraceFault.TheVariants.{Full, JobUnfit, BeganAtZero, EndedBefore, StatusesWrong, DataWrong}
use Rattle.nvm_trace.specs.declared.traced_job.TracedJob.{TracedJob}
use Rattle.nvm_trace.specs.Traceable.{IsDataOf, IsTraceableJob}
use Rattle.nvm_trace.specs.TraceView.{TraceView}

-- There is room for the job, and a trace can hold it.
pub record CanTake (t : TraceView) (j : TracedJob) : Type 0 where
  pub room : length t.jobs < most_jobs
  pub job : IsTraceableJob t.namespace j

-- The fault is one of the job.
abbrev pub Applies : TraceView → TracedJob → TraceFault → Type 0
Applies t j Full = most_jobs ≤ length t.jobs
Applies t j JobUnfit = ¬ (FitsNamespace t.namespace j.job × HoldsBody Two j.job.body)
Applies t j BeganAtZero = j.began ≡ 0
Applies t j EndedBefore = IsSomeAnd j.ended (λ e. e.time < j.began)
Applies t j StatusesWrong = IsSomeAnd j.ended (λ e. ¬ (IsForEach j.job.body e.statuses))
Applies t j DataWrong = IsSomeAnd j.ended (λ e. IsSomeAnd e.payload (λ bytes. ¬ (IsDataOf t.namespace j.job.body bytes)))
