use Rattle.std.proofs.Common.{arith}
use Rattle.nvm_standard.specs.PointView.{seen}
use Rattle.nvm_standard.specs.OrderView.{seen_placed}
use Rattle.nvm_standard.proofs.deallocating.note_put.Goals as goal

pub returns-then-surely_puts-clause-least : goal.returns-then-surely_puts-clause-least
returns-then-surely_puts-clause-least c = λ t o k s least x m bound.
    let sure = c.surely_puts.ensures.0 c.if-surely_puts.true in
    c.raise.ensures.least x m (least x m (λ i p q less s'. bound i p q (omega arith) s'))
    (λ has. bound k (seen_placed c.args.placed.now) (seen c.args.point.now) (omega arith) s sure.0 sure.1 has)
