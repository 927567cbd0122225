-- What a trace can hold, whether or not any device gave it (own). Each trace holds only this, by its type.
use Rattle.std.specs.Prelude.{◌≡◌, ℕ, ◌+◌, ◌*◌, ◌≤◌, List, length, IfSome}
use Rattle.std.specs.List.{All}
use Rattle.nvm_record.specs.declared.op.Op.TheVariants.{Read}
use Rattle.nvm_geometry.specs.Faults.{IsValid}
use Rattle.nvm_geometry.specs.Namespace.{Namespace}
use Rattle.nvm_plan.specs.declared.job.Body.{Body}
use Rattle.nvm_plan.specs.declared.job.Body.TheVariants.{Single, Pair}
use Rattle.nvm_plan.specs.Fits.{FitsNamespace}
use Rattle.nvm_plan.specs.Shape.{IsForEach}
use Rattle.nvm_audit.specs.declared.version.Version.TheVariants.{Two}
use Rattle.nvm_audit.specs.Recordable.{most_jobs, HoldsBody}
use Rattle.nvm_trace.specs.declared.traced_job.Ending.{Ending}
use Rattle.nvm_trace.specs.declared.traced_job.TracedJob.{TracedJob}
use Rattle.nvm_trace.specs.TraceView.{TraceView}

-- The bytes are of the length of the blocks of this job, which is a Read by itself.
abbrev pub IsDataOf : Namespace → Body → List ℕ → Type 0
IsDataOf ns (Single c) bytes = (c.op ≡ Read) × (length bytes ≡ (c.nlb + 1) * ns.block_size)
IsDataOf ns (Pair c d) bytes = ⊥

-- The job may have ended so: not before it began, with a status for each command, and with data only of a Read.
pub record IsEndingOf (ns : Namespace) (j : TracedJob) (e : Ending) : Type 0 where
  pub time : j.began ≤ e.time
  pub statuses : IsForEach j.job.body e.statuses
  pub payload : IfSome e.payload (IsDataOf ns j.job.body)

-- The job fits the namespace, its commands are ones that a record of today holds, and it began after time 0, which is that of
-- what was there before the trace.
pub record IsTraceableJob (ns : Namespace) (j : TracedJob) : Type 0 where
  pub fits : FitsNamespace ns j.job
  pub known : HoldsBody Two j.job.body
  pub began : 1 ≤ j.began
  pub ended : IfSome j.ended (IsEndingOf ns j)

pub record IsTraceable (t : TraceView) : Type 0 where
  pub namespace : IsValid t.namespace
  pub few : length t.jobs ≤ most_jobs
  pub jobs : All (IsTraceableJob t.namespace) t.jobs
