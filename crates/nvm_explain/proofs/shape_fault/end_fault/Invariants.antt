use Rattle.std.proofs.Common.{◌≡◌, drop}
use Rattle.nvm_explain.specs.ShapeFault.{end_fault}
use Rattle.nvm_explain.proofs.shape_fault.end_fault.Given as goal

-- what is first wrong with the parts that are left is what is first wrong with all
abbrev pub invariant-loop-place : goal.invariant-loop-place
invariant-loop-place l =
    end_fault l.success l.stop l.recorded (drop l.place l.parts) ≡ end_fault l.success l.stop l.recorded l.parts
