use Rattle.std.proofs.Common.{◌≡◌, ℕ, length, map}
use Rattle.nvm_record.specs.Lists.{IsAt}
use Rattle.nvm_plan.specs.Fits.{FitsNamespace}
use Rattle.nvm_plan.specs.declared.job.Job.{Job}
use Rattle.nvm_audit.specs.Recordable.{HoldsBody}
use Rattle.nvm_audit.specs.declared.version.Version.TheVariants.{Two}
use Rattle.nvm_c.specs.Recorded.{IsSomebodys}
use Rattle.nvm_c.proofs.gathering.jobs_in_order.Given as goal

-- Each job so far is one of some port, of its number, and a record can hold it.
abbrev pub invariant-loop-number : goal.invariant-loop-number
invariant-loop-number l = record {
  count : length l.ordered.items ≡ l.number;
  each : (k : ℕ) (job : Job) → IsAt l.ordered.items k job
      → IsSomebodys (map (λ own. own.items) l.jobs.items) (map (λ did. did.items) l.done.items) k job;
  fit : (k : ℕ) (job : Job) → IsAt l.ordered.items k job → FitsNamespace l.geometry job;
  known : (k : ℕ) (job : Job) → IsAt l.ordered.items k job → HoldsBody Two job.body;
}
