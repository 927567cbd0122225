use Rattle.nvm_audit.proofs.Fronts.{KeepsLeft}
use Rattle.nvm_audit.proofs.shapes.are_first.Given as goal

abbrev pub invariant-loop-part : goal.invariant-loop-part
invariant-loop-part l = KeepsLeft l.parts l.part-index l.units l.fn.units
