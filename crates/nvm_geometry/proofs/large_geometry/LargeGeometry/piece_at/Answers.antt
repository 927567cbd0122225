use Rattle.std.proofs.Common.{refl, arith}
use Rattle.nvm_geometry.specs.Boundaries.{unit_number}
use Rattle.nvm_geometry.proofs.UnitPlaces.{part_is_overlap, no_overlap}
use Rattle.nvm_geometry.proofs.large_geometry.LargeGeometry.piece_at.Goals as goal

pub returns-then-past-first-clause-none : goal.returns-then-past-first-clause-none
returns-then-past-first-clause-none c =
    no_overlap c.args.self c.args.slba c.args.blocks (unit_number c.args.self c.args.lba) c.unit_range-start.result.0 c.unit_range-start.result.1
    c.requires.in_range c.unit_range-start.ensures (omega arith)

pub returns-clause-first : goal.returns-clause-first
returns-clause-first c =
    let is =
    part_is_overlap c.args.self c.args.slba c.args.blocks (unit_number c.args.self c.args.lba) c.unit_range-start.result.0 c.unit_range-start.result.1
    c.requires.in_range c.unit_range-start.ensures (omega arith) in
    rw (is.0, c.max-first.ensures) refl

pub returns-clause-blocks : goal.returns-clause-blocks
returns-clause-blocks c =
    let is =
    part_is_overlap c.args.self c.args.slba c.args.blocks (unit_number c.args.self c.args.lba) c.unit_range-start.result.0 c.unit_range-start.result.1
    c.requires.in_range c.unit_range-start.ensures (omega arith) in
    rw (is.1, c.min-past.ensures, c.max-first.ensures, c.from.ensures, c.from-2.ensures) refl
