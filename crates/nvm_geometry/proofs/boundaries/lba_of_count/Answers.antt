use Rattle.std.proofs.Common.{arith}
use Rattle.nvm_geometry.proofs.BoundaryCount.{IsShift}
use Rattle.nvm_geometry.proofs.UnitOrder.{count_reaches}
use Rattle.nvm_geometry.proofs.boundaries.lba_of_count.Goals as goal

pub returns : goal.returns
returns c lba =
    let s : IsShift c.args.nabsn c.args.nabo c.shift.result =
    record { none = c.shift.ensures.none; rest = c.shift.ensures.rest; offset = c.requires.offset } in
    let reaches = count_reaches c.args.nabsn c.args.nabo c.shift.result c.args.count lba s (omega (arith, c.requires.boundary)) in
    rw (c.saturating_sub.ensures)
    ((λ h. reaches.1 (omega (arith, h))), (λ h. omega (arith, reaches.0 h)))
