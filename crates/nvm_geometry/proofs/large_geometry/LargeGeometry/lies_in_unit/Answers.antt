use Rattle.std.proofs.Common.{arith, sym, ◌+◌, ◌-◌}
use Rattle.std.proofs.lemmas.Bool.{OnTrue_from, OnFalse_from, leb-true, leb-false}
use Rattle.nvm_geometry.proofs.UnitOrder.{count_rises, crosses_higher, shares_from_number}
use Rattle.nvm_geometry.proofs.large_geometry.LargeGeometry.lies_in_unit.Goals as goal

pub returns-clause-one_unit : goal.returns-clause-one_unit
returns-clause-one_unit c =
    let last = c.args.slba + c.args.blocks - 1 in
    OnTrue_from _ _ (λ t.
    let below = leb-true _ _ t in
    shares_from_number c.args.self c.args.slba last
    (sym (c.unit_end.ensures.lies last (omega (arith, c.requires.some)) (omega (arith, below, c.from.ensures, c.requires.some)))))

pub returns-clause-crossed : goal.returns-clause-crossed
returns-clause-crossed c =
    let ns = c.args.self in
    let last = c.args.slba + c.args.blocks - 1 in
    OnFalse_from _ _ (λ f.
    let above = leb-false _ _ f in
    let next = c.unit_end.ensures.next (omega (arith, above, c.from.ensures, c.requires.in_range)) in
    let rises = count_rises ns.nabsn ns.nabo c.unit_end.result last (omega (arith, above, c.from.ensures)) in
    crosses_higher ns c.args.slba c.args.blocks c.requires.some (omega (arith, next, rises)))
