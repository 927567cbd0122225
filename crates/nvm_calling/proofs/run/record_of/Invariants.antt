use Rattle.std.proofs.Common.{ℕ, ◌<◌, slice_index_or}
use Rattle.nvm_plan.specs.declared.job.Job.{Job}
use Rattle.nvm_plan.specs.Fits.{FitsNamespace}
use Rattle.nvm_audit.specs.declared.version.Version.TheVariants.{Two}
use Rattle.nvm_audit.specs.Recordable.{HoldsBody}
use Rattle.nvm_calling.proofs.run.record_of.Given as goal

-- The jobs so far can be run.
abbrev pub invariant-loop-place : goal.invariant-loop-place
invariant-loop-place g l = (k : ℕ) (d : Job) → k < l.place
    → FitsNamespace l.geometry (slice_index_or l.jobs k d) × HoldsBody Two (slice_index_or l.jobs k d).body
