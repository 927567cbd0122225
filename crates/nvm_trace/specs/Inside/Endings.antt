-- What can be wrong with how a traced job ended.
use Rattle.std.specs.Prelude.{◌<◌, IsSomeAnd}
use Rattle.nvm_geometry.specs.Namespace.{Namespace}
use Rattle.nvm_plan.specs.Shape.{IsForEach}
use Rattle.nvm_trace.specs.declared.trace_fault.TraceFault.{TraceFault}
use Rattle.nvm_trace.specs.declared.trace_fault.TraceFault.TheVariants.{Full, JobUnfit, BeganAtZero, EndedBefore, StatusesWrong, DataWrong}
use Rattle.nvm_trace.specs.declared.traced_job.Ending.{Ending}
use Rattle.nvm_trace.specs.declared.traced_job.TracedJob.{TracedJob}
use Rattle.nvm_trace.specs.Traceable.{IsDataOf}

-- The fault is one of the ending.
abbrev pub IsEndingFault : Namespace → TracedJob → Ending → TraceFault → Type 0
IsEndingFault ns j e Full = ⊥
IsEndingFault ns j e JobUnfit = ⊥
IsEndingFault ns j e BeganAtZero = ⊥
IsEndingFault ns j e EndedBefore = e.time < j.began
IsEndingFault ns j e StatusesWrong = ¬ (IsForEach j.job.body e.statuses)
IsEndingFault ns j e DataWrong = IsSomeAnd e.payload (λ bytes. ¬ (IsDataOf ns j.job.body bytes))
