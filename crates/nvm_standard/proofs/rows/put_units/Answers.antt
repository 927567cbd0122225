use Rattle.std.proofs.Common.{List, subst, arith}
use Rattle.nvm_geometry.specs.Parts.{AreInLine}
use Rattle.nvm_geometry.specs.declared.piece.Piece.{Piece}
use Rattle.nvm_standard.proofs.rows.put_units.Goals as goal

pub overflow_add-first : goal.overflow_add-first
overflow_add-first c =
    let before = c.loop-piece.invariant in
    let line = subst (λ (ps : List Piece). AreInLine c.loop-piece.first before.0 ps) c.in-Some.ensures.steps before.1 in
    omega (arith, line.2, before.2, c.requires.in_range, c.nsze-nsze.ensures.valid)
