use Rattle.std.proofs.Common.{◌≡◌, arith}
use Rattle.nvm_geometry.specs.Boundaries.{unit_number}
use Rattle.nvm_geometry.proofs.UnitPlaces.{no_unit, part_in_place}
use Rattle.nvm_geometry.proofs.geometry.Geometry.piece_in.Goals as goal

pub returns-then-unit-units-clause-none : goal.returns-then-unit-units-clause-none
returns-then-unit-units-clause-none c = no_unit c.args.self c.args.slba c.args.blocks c.args.unit c.requires (omega arith)

pub returns-clause-inside : goal.returns-clause-inside
returns-clause-inside c =
    let ns = c.args.self in
    let place = c.unit_range-start.ensures in
    let start = c.unit_range-start.result.0 in
    let here : unit_number ns start ≡ c.args.unit = place.lies start (omega arith) (omega (arith, place.some)) in
    let first_is = rw (c.large.ensures, here) at c.in_ok-first.ensures.first in
    let blocks_is = rw (c.large.ensures, here) at c.in_ok-first.ensures.blocks in
    let fits = part_in_place ns c.args.slba c.args.blocks c.args.unit start c.unit_range-start.result.1 c.requires place
    (omega (arith, c.in_ok-first.ensures.some, blocks_is)) in
    record {
      known = omega (arith, c.if-unit-units.false, c.units.ensures.value);
      lies = λ lba low high. place.lies lba (omega (arith, low, first_is, fits.0)) (omega (arith, high, first_is, blocks_is, fits.1));
    }
