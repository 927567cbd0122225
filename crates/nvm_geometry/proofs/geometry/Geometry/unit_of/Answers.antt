use Rattle.std.proofs.Common.{arith}
use Rattle.nvm_geometry.proofs.UnitOrder.{unit_below}
use Rattle.nvm_geometry.proofs.geometry.Geometry.unit_of.Goals as goal

pub returns-clause-valid : goal.returns-clause-valid
returns-clause-valid c =
    let is = rw (c.nabsn.ensures, c.nabo.ensures) at c.unit_at.ensures.value in
    omega (arith, unit_below c.args.self c.args.lba c.requires, is)
