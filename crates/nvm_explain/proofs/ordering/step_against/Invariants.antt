use Rattle.std.proofs.Common.{◌≡◌, drop}
use Rattle.nvm_explain.specs.Ordering.{step_against}
use Rattle.nvm_explain.proofs.ordering.step_against.Given as goal

-- what is first of those that are left is first of all
abbrev pub invariant-loop-step : goal.invariant-loop-step
invariant-loop-step l = step_against l.late (drop l.step-index l.steps) ≡ step_against l.late l.steps
