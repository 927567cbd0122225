use Rattle.std.proofs.Common.{arith}
use Rattle.nvm_geometry.proofs.BoundaryCount.{IsShift, quotient}
use Rattle.nvm_geometry.proofs.UnitOrder.{count_none, count_small}
use Rattle.nvm_geometry.proofs.boundaries.count_at.Goals as goal

pub returns-then-nabsn-eq0-clause-value : goal.returns-then-nabsn-eq0-clause-value
returns-then-nabsn-eq0-clause-value c = omega (arith, count_none c.args.nabsn c.args.nabo c.args.lba c.if-nabsn-eq0.true)

pub returns : goal.returns
returns c =
    let s : IsShift c.args.nabsn c.args.nabo c.shift.result =
    record { none = c.shift.ensures.none; rest = c.shift.ensures.rest; offset = c.requires.offset } in
    let q = quotient c.args.nabsn c.args.nabo c.shift.result c.args.lba s (omega (arith, c.if-nabsn-eq0.false)) in
    record { value = q; few = omega (arith, q, count_small c.args.nabsn c.args.nabo c.args.lba) }
