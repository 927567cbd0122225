use Rattle.std.proofs.Common.{◌-◌, arith}
use Rattle.nvm_geometry.proofs.BoundaryCount.{count_zero}
use Rattle.nvm_geometry.proofs.UnitOrder.{count_rises, unit_below, number_at_boundary, number_elsewhere, number_reached}
use Rattle.nvm_geometry.proofs.laws.units_number_the_namespace.Goals as goal

pub returns-clause-first : goal.returns-clause-first
returns-clause-first c ns = count_zero ns.nabsn ns.nabo

pub returns-clause-at_boundary : goal.returns-clause-at_boundary
returns-clause-at_boundary c = number_at_boundary

pub returns-clause-elsewhere : goal.returns-clause-elsewhere
returns-clause-elsewhere c = number_elsewhere

pub returns-clause-ascending : goal.returns-clause-ascending
returns-clause-ascending c ns = count_rises ns.nabsn ns.nabo

pub returns-clause-below : goal.returns-clause-below
returns-clause-below c = unit_below

pub returns-clause-no_gap : goal.returns-clause-no_gap
returns-clause-no_gap c ns unit some known =
    let r = number_reached ns unit (ns.nsze - 1) (omega (arith, known)) in
    (r.0, omega (arith, r.1, some), r.2)
