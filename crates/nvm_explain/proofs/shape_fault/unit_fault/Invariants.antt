use Rattle.std.proofs.Common.{◌≡◌, drop}
use Rattle.nvm_explain.specs.ShapeFault.{unit_fault, units_left}
use Rattle.nvm_explain.proofs.shape_fault.unit_fault.Given as goal

-- what is first wrong with the parts that are left, in the units that are left, is what is first wrong with all, and the same
-- units are left after them
abbrev pub invariant-loop-part : goal.invariant-loop-part
invariant-loop-part l =
    (unit_fault (drop l.part-index l.parts) l.units ≡ unit_fault l.parts l.fn.units)
    × (units_left (drop l.part-index l.parts) l.units ≡ units_left l.parts l.fn.units)
