-- How the code says into which pieces a job is cut, and when a job has such a piece.
use Rattle.std.specs.Prelude.{◌≡◌, ℕ, ◌+◌, ◌<◌, ◌≤◌, false, List, [], ◌∷◌, map, None}
use Rattle.std.specs.List.{range_with_len}
use Rattle.nvm_record.specs.declared.command.Command.{Command}
use Rattle.nvm_record.specs.Op.{carries_ranges}
use Rattle.nvm_geometry.specs.Namespace.{Namespace}
use Rattle.nvm_plan.specs.declared.job.Body.{Body}
use Rattle.nvm_plan.specs.declared.job.Body.TheVariants.{Single, Pair}
use Rattle.nvm_plan.specs.declared.job.Job.{Job}
use Rattle.nvm_plan.specs.Checks.{refusal_of}
use Rattle.nvm_plan.specs.JobPart.{job_units}
use Rattle.nvm_trace.specs.declared.cut.Cut.{Cut}
use Rattle.nvm_trace.specs.declared.cut.Cut.TheVariants.{Whole, Block, InUnit}
use Rattle.nvm_trace.specs.declared.cuts.Cuts.{Cuts}
use Rattle.nvm_trace.specs.declared.cuts.Cuts.TheVariants.{Whole as AllWhole, Blocks, Units}
use Rattle.nvm_trace.specs.declared.traced_job.TracedJob.{TracedJob}
use Rattle.nvm_trace.specs.Pieces.{lbas_in}

-- These are the cuts of the job. One that is cut at its units isn't refused.
abbrev pub AreCuts : Namespace → TracedJob → Cuts → List Cut → Type 0
AreCuts ns j AllWhole cuts = cuts ≡ Whole ∷ []
AreCuts ns j (Blocks n) cuts = cuts ≡ map Block (range_with_len 0 n)
AreCuts ns j Units cuts = (refusal_of ns j.job ≡ None) × (cuts ≡ map InUnit (job_units ns j.job))

-- The command lies in the namespace, and has an LBA in the unit, or may have one.
pub record HasLbasIn (ns : Namespace) (c : Command) (unit : ℕ) : Type 0 where
  pub inside : carries_ranges c.op ≡ false → c.slba + (c.nlb + 1) ≤ ns.nsze
  pub some : 0 < (lbas_in ns c unit).blocks

abbrev pub HasBodyIn : Namespace → Body → ℕ → Type 0
HasBodyIn ns (Single c) unit = HasLbasIn ns c unit
HasBodyIn ns (Pair c d) unit = Unit {0}

-- The job has such a piece.
abbrev pub HasPart : Namespace → Job → Cut → Type 0
HasPart ns job Whole = Unit {0}
HasPart ns job (Block k) = Unit {0}
HasPart ns job (InUnit unit) = HasBodyIn ns job.body unit
