use Rattle.std.proofs.Common.{arith}
use Rattle.nvm_geometry.proofs.UnitOrder.{unit_below}
use Rattle.nvm_geometry.proofs.regions.Regions.region_of.Goals as goal

pub overflow_cast-result : goal.overflow_cast-result
overflow_cast-result c =
    let below = rw (← c.self.view_is) at (unit_below c.args.self c.args.lba c.requires) in
    omega (arith, below, c.count_at.ensures.value, c.self.invariant.few)

pub returns-clause-valid : goal.returns-clause-valid
returns-clause-valid c =
    let below = rw (← c.self.view_is) at (unit_below c.args.self c.args.lba c.requires) in
    rw (← c.self.view_is) (omega (arith, below, c.count_at.ensures.value))
