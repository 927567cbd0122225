use Rattle.std.proofs.Common.{ℕ, ◌<◌}
use Rattle.nvm_record.specs.Lists.{IsAt}
use Rattle.nvm_trace.specs.declared.step.Step.{Step}
use Rattle.nvm_trace.specs.Timely.{IsLate}
use Rattle.nvm_trace.proofs.timing.first_late.Given as goal

abbrev pub invariant-loop-place : goal.invariant-loop-place
invariant-loop-place l = (k : ℕ) (s : Step) → k < l.place → IsAt l.steps.items k s → ¬ (IsLate l.steps.items s)
