use Rattle.std.proofs.Common.{length, sym, ap, ◌∙◌, arith, rules}
use Rattle.nvm_geometry.proofs.Pieces.{pieces_none, next_piece}
use Rattle.nvm_geometry.proofs.parts.PartsIterator.next.Goals as goal

pub returns-then-self-eq0-clause-steps : goal.returns-then-self-eq0-clause-steps
returns-then-self-eq0-clause-steps c =
    let none = sym c.self.view_is ∙ (rw (← c.if-self-eq0.true) at (pieces_none c.self.inside.geometry c.self.inside.at)) in
    (none, none)

pub returns-clause-steps : goal.returns-clause-steps
returns-clause-steps c =
    let step =
    next_piece c.self.inside.geometry c.self.inside.at c.self.inside.left c.min-blocks.result c.unit_of-unit.result
    c.unit_range-first.result.0 c.unit_range-first.result.1 c.unit_of-unit.ensures.value c.unit_of-unit.ensures.valid
    (omega arith) c.self.invariant c.unit_range-first.ensures.lies c.unit_range-first.ensures.whole
    (rw (← c.from.ensures, ← c.from-2.ensures) c.min-blocks.ensures) in
    rw c.from-3.ensures (sym c.self.view_is ∙ step)

pub returns-clause-goes : goal.returns-clause-goes
returns-clause-goes c =
    let step =
    next_piece c.self.inside.geometry c.self.inside.at c.self.inside.left c.min-blocks.result c.unit_of-unit.result
    c.unit_range-first.result.0 c.unit_range-first.result.1 c.unit_of-unit.ensures.value c.unit_of-unit.ensures.valid
    (omega arith) c.self.invariant c.unit_range-first.ensures.lies c.unit_range-first.ensures.whole
    (rw (← c.from.ensures, ← c.from-2.ensures) c.min-blocks.ensures) in
    rw c.from-3.ensures (let shorter = ap length (sym c.self.view_is ∙ step) in search rules)
