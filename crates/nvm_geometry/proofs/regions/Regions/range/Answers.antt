use Rattle.std.proofs.Common.{◌<◌, min, arith}
use Rattle.nvm_geometry.proofs.RegionUnits.{next_near}
use Rattle.nvm_geometry.proofs.UnitOrder.{range_some}
use Rattle.nvm_geometry.proofs.UnitPlaces.{place_from_starts, place_of_all}
use Rattle.nvm_geometry.proofs.regions.Regions.range.Goals as goal

pub returns-then-self-eq0-clause-place : goal.returns-then-self-eq0-clause-place
returns-then-self-eq0-clause-place c =
    rw (← c.self.view_is) (place_of_all _ c.args.region c.if-self-eq0.true c.self.invariant.some (rw (← c.self.view_is) at c.requires))

pub overflow_sub-result : goal.overflow_sub-result
overflow_sub-result c =
    let below = rw (← c.self.view_is) at c.requires in
    let some : c.lba_of_count-first.result < min c.lba_of_count-next.result c.self.inside.nsze =
    range_some c.self.inside.nabsn c.self.inside.nabo c.args.region c.lba_of_count-first.result c.lba_of_count-next.result c.self.inside.nsze
    (rw c.from-region.ensures at c.lba_of_count-first.ensures) (rw c.from-region.ensures at c.lba_of_count-next.ensures) c.self.invariant.some below in
    omega (arith, some, c.min.ensures)

pub overflow_cast-result-2 : goal.overflow_cast-result-2
overflow_cast-result-2 c =
    let near = next_near c.self.inside.nabsn c.self.inside.nabo c.from-region.result c.lba_of_count-first.result c.lba_of_count-next.result
    c.self.invariant.offset (omega (arith, c.if-self-eq0.false)) c.lba_of_count-first.ensures c.lba_of_count-next.ensures in
    omega (arith, near, c.min.ensures, c.self.invariant.blocks)

pub returns-clause-place : goal.returns-clause-place
returns-clause-place c =
    rw (← c.self.view_is, c.min.ensures)
    (place_from_starts _ c.args.region c.lba_of_count-first.result c.lba_of_count-next.result c.self.invariant.some (rw (← c.self.view_is) at c.requires)
    (rw c.from-region.ensures at c.lba_of_count-first.ensures) (rw c.from-region.ensures at c.lba_of_count-next.ensures))
