use Rattle.std.proofs.Common.{◌≡◌, ◌+◌, ◌-◌, ◌≤◌, refl, arith}
use Rattle.nvm_geometry.specs.Boundaries.{unit_number}
use Rattle.nvm_geometry.proofs.Pieces.{units_none}
use Rattle.nvm_geometry.proofs.UnitOrder.{count_rises}
use Rattle.nvm_geometry.proofs.UnitPlaces.{units_counted}
use Rattle.nvm_geometry.proofs.geometry.Geometry.piece_count.Goals as goal

pub returns-then-blocks-eq0-clause-value : goal.returns-then-blocks-eq0-clause-value
returns-then-blocks-eq0-clause-value c =
    rw (c.if-blocks-eq0.true, units_none c.args.self c.args.slba) refl

pub overflow_sub-result : goal.overflow_sub-result
overflow_sub-result c =
    let last : c.unit_of.result ≡ unit_number c.args.self (c.args.slba + c.args.blocks - 1) = rw (← c.from.ensures) c.unit_of.ensures.value in
    let rise : unit_number c.args.self c.args.slba ≤ unit_number c.args.self (c.args.slba + c.args.blocks - 1) =
    count_rises c.args.self.nabsn c.args.self.nabo c.args.slba (c.args.slba + c.args.blocks - 1) (omega arith) in
    omega (arith, last, rise, c.unit_of-2.ensures.value)

pub returns-clause-value : goal.returns-clause-value
returns-clause-value c =
    let last : c.unit_of.result ≡ unit_number c.args.self (c.args.slba + c.args.blocks - 1) = rw (← c.from.ensures) c.unit_of.ensures.value in
    omega (arith, last, c.unit_of-2.ensures.value, units_counted c.args.self c.args.slba c.args.blocks (omega arith) c.requires)
