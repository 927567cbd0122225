use Rattle.std.proofs.Common.{IsTrue}
use Rattle.nvm_plan.specs.Shape.{goes_on}
use Rattle.nvm_audit.proofs.Fronts.{KeepsAll}
use Rattle.nvm_audit.proofs.shapes.all_go_on.Given as goal

abbrev pub invariant-loop-part : goal.invariant-loop-part
invariant-loop-part l = KeepsAll (λ part. IsTrue (goes_on part.result)) l.parts l.part-index
