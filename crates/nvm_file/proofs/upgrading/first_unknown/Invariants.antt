use Rattle.std.proofs.Common.{ℕ, ◌<◌}
use Rattle.nvm_record.specs.Lists.{IsAt}
use Rattle.nvm_plan.specs.declared.job.Job.{Job}
use Rattle.nvm_file.specs.Upgrade.{HasUnknown}
use Rattle.nvm_file.proofs.upgrading.first_unknown.Given as goal

abbrev pub invariant-loop-number : goal.invariant-loop-number
invariant-loop-number l =
    (earlier : ℕ) (job : Job) → earlier < l.number → IsAt l.jobs earlier job → ¬ (HasUnknown job.body)
