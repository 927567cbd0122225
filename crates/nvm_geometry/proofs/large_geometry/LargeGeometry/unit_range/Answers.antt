use Rattle.std.proofs.Common.{◌<◌, min, arith}
use Rattle.nvm_geometry.proofs.RegionUnits.{next_near}
use Rattle.nvm_geometry.proofs.UnitOrder.{range_some, unit_below}
use Rattle.nvm_geometry.proofs.UnitPlaces.{place_from_starts, place_of_all}
use Rattle.nvm_geometry.proofs.large_geometry.LargeGeometry.unit_range.Goals as goal

pub returns-then-self-eq0 : goal.returns-then-self-eq0
returns-then-self-eq0 c =
    let below = rw (← c.self.view_is) at (unit_below c.args.self c.args.lba c.requires) in
    rw (← c.self.view_is) (place_of_all _ _ c.if-self-eq0.true c.self.invariant.some below)

pub overflow_sub-result : goal.overflow_sub-result
overflow_sub-result c =
    let below = rw (← c.self.view_is) at (unit_below c.args.self c.args.lba c.requires) in
    let some : c.unit_start-first.result < min c.unit_start-next.result c.self.inside.nsze =
    range_some c.self.inside.nabsn c.self.inside.nabo c.unit_at-unit.result c.unit_start-first.result c.unit_start-next.result c.self.inside.nsze
    c.unit_start-first.ensures c.unit_start-next.ensures c.self.invariant.some (omega (arith, below, c.unit_at-unit.ensures.value)) in
    omega (arith, some, c.min.ensures)

pub overflow_cast-result-2 : goal.overflow_cast-result-2
overflow_cast-result-2 c =
    let near = next_near c.self.inside.nabsn c.self.inside.nabo c.unit_at-unit.result c.unit_start-first.result c.unit_start-next.result
    c.self.invariant.offset (omega (arith, c.if-self-eq0.false)) c.unit_start-first.ensures c.unit_start-next.ensures in
    omega (arith, near, c.min.ensures)

pub returns : goal.returns
returns c =
    let below = rw (← c.self.view_is) at (unit_below c.args.self c.args.lba c.requires) in
    rw (← c.self.view_is, c.min.ensures)
    (place_from_starts _ _ c.unit_start-first.result c.unit_start-next.result c.self.invariant.some below
    (rw c.unit_at-unit.ensures.value at c.unit_start-first.ensures) (rw c.unit_at-unit.ensures.value at c.unit_start-next.ensures))
