use Rattle.std.proofs.Common.{◌≡◌, ℕ, ◌-◌, subst, arith}
use Rattle.nvm_geometry.specs.Boundaries.{unit_number}
use Rattle.nvm_geometry.specs.Place.{IsPlaceOf}
use Rattle.nvm_geometry.proofs.UnitOrder.{count_none, number_at_start}
use Rattle.nvm_geometry.proofs.geometry.Geometry.unit_range.Goals as goal

pub returns-then-nabsn-eq0 : goal.returns-then-nabsn-eq0
returns-then-nabsn-eq0 c =
    let ns = c.args.self in
    let none : ns.nabsn ≡ 0 = omega (arith, c.if-nabsn-eq0.true, c.nabsn.ensures) in
    let here : unit_number ns 0 ≡ c.args.unit =
    omega (arith, c.requires, count_none ns.nabsn ns.nabo 0 none, count_none ns.nabsn ns.nabo (ns.nsze - 1) none) in
    subst (λ (unit : ℕ). IsPlaceOf ns unit c.unit_range.result.0 c.unit_range.result.1) here (rw c.self.view_is at c.unit_range.ensures)

pub returns : goal.returns
returns c =
    let ns = c.args.self in
    let from = rw (c.nabsn-2.ensures, c.nabo.ensures, c.from.ensures) at c.unit_start-first.ensures in
    let here = number_at_start ns c.args.unit c.unit_start-first.result from c.requires in
    subst (λ (unit : ℕ). IsPlaceOf ns unit c.unit_range-2.result.0 c.unit_range-2.result.1) here (rw c.self-2.view_is at c.unit_range-2.ensures)
