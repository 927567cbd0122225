use Rattle.std.proofs.Common.{arith, ◌∙◌, sym, ◌≡◌, ◌+◌}
use Rattle.nvm_geometry.proofs.RegionUnits.{same_until}
use Rattle.nvm_geometry.proofs.UnitOrder.{count_first, count_none}
use Rattle.nvm_geometry.proofs.large_geometry.LargeGeometry.unit_end.Goals as goal

pub returns-then-self-eq0-clause-lies : goal.returns-then-self-eq0-clause-lies
returns-then-self-eq0-clause-lies c x low high =
    rw (← c.self.view_is)
    (count_none c.self.inside.nabsn c.self.inside.nabo x c.if-self-eq0.true
    ∙ sym (count_none c.self.inside.nabsn c.self.inside.nabo c.args.lba c.if-self-eq0.true))

pub returns-clause-lies : goal.returns-clause-lies
returns-clause-lies c x low high =
    let passes = rw c.unit_at-unit.ensures.value at c.unit_start.ensures in
    rw (← c.self.view_is)
    (same_until c.self.inside.nabsn c.self.inside.nabo c.args.lba c.unit_start.result x passes low (omega (arith, high, c.min.ensures)))

pub returns-clause-next : goal.returns-clause-next
returns-clause-next c below =
    let inside = rw (← c.self.view_is) at below in
    let is : c.min.result ≡ c.unit_start.result = omega (arith, inside, c.min.ensures) in
    let first = count_first c.self.inside.nabsn c.self.inside.nabo (c.unit_at-unit.result + 1) c.unit_start.result c.unit_start.ensures in
    rw (← c.self.view_is, is) (omega (arith, first, c.unit_at-unit.ensures.value))
