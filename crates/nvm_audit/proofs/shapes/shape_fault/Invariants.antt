use Rattle.std.proofs.Common.{ℕ, ◌<◌}
use Rattle.nvm_audit.specs.RecordChecks.{HaveShapesOf}
use Rattle.nvm_audit.proofs.shapes.shape_fault.Given as goal

abbrev pub invariant-loop-number : goal.invariant-loop-number
invariant-loop-number l = (k : ℕ) → k < l.number → HaveShapesOf l.r k
