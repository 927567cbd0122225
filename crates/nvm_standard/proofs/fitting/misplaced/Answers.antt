use Rattle.std.proofs.Common.{arith}
use Rattle.std.proofs.lemmas.List.{length-map}
use Rattle.nvm_standard.specs.PointView.{seen_table}
use Rattle.nvm_standard.specs.Explanation.{IsPlacedRight}
use Rattle.nvm_standard.specs.OrderView.{seen_order, seen_placed}
use Rattle.nvm_standard.proofs.Eaches.{each_more, each_all, one_of_all}
use Rattle.nvm_standard.proofs.Standing.{not_both, read_seen}
use Rattle.nvm_standard.proofs.fitting.misplaced.Goals as goal

pub loop-position-preserved : goal.loop-position-preserved
loop-position-preserved c =
    let xs = c.args.order.now.placed.items in
    each_more (IsPlacedRight (seen_table c.args.points.now)) (seen_order c.args.order.now).placed c.loop-position.position
    (seen_placed c.index.result.now)
    (read_seen seen_placed xs c.loop-position.position c.index.result.now (omega arith) c.index.ensures)
    (c.is_right.ensures.0 c.if-not-is_right.false) c.loop-position.invariant

pub returns-clause-right : goal.returns-clause-right
returns-clause-right c =
    let same = length-map c.args.order.now.placed.items seen_placed in
    each_all (IsPlacedRight (seen_table c.args.points.now)) (seen_order c.args.order.now).placed c.loop-position.position
    (omega (arith, same, c.loop-position-test.false)) c.loop-position.invariant

pub returns-then-not-is_right-clause-wrong : goal.returns-then-not-is_right-clause-wrong
returns-then-not-is_right-clause-wrong c = λ all.
    let xs = c.args.order.now.placed.items in
    let at = read_seen seen_placed xs c.loop-position.position c.index.result.now (omega arith) c.index.ensures in
    not_both c.is_right.result
    (c.is_right.ensures.1
    (one_of_all (IsPlacedRight (seen_table c.args.points.now)) (seen_order c.args.order.now).placed c.loop-position.position
    (seen_placed c.index.result.now) all at)) c.if-not-is_right.true
