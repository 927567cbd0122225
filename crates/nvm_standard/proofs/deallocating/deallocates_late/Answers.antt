use Rattle.std.proofs.Common.{arith}
use Rattle.std.proofs.lemmas.List.{length-map}
use Rattle.nvm_standard.specs.PointView.{seen, seen_table}
use Rattle.nvm_standard.specs.OrderView.{seen_order, seen_placed}
use Rattle.nvm_standard.proofs.Latest.{keeps_more, keeps_all, next_not_late, none_latest, none_least}
use Rattle.nvm_standard.proofs.Standing.{not_both}
use Rattle.nvm_standard.proofs.deallocating.deallocates_late.Goals as goal

pub loop-position-preserved : goal.loop-position-preserved
loop-position-preserved c =
    let t = seen_table c.args.points.now in
    let o = seen_order c.args.order.now in
    let p = seen_placed c.stands_at.result.0.now in
    let q = seen c.stands_at.result.1.now in
    let before = c.loop-position.invariant in
    record {
      latest_are = c.note_put.ensures.latest t o c.loop-position.position c.stands_at.ensures.stands before.latest_are;
      least = c.note_put.ensures.least t o c.loop-position.position c.stands_at.ensures.stands before.least;
      kept =
          keeps_more t o c.loop-position.position p q c.loop-position.latest.items c.stands_at.ensures.stands before.latest_are
          (c.comes_before.ensures.0 c.if-not-comes_before.false) before.kept;
    }

pub returns-clause-right : goal.returns-clause-right
returns-clause-right c =
    let same = length-map c.args.order.now.placed.items seen_placed in
    keeps_all (seen_table c.args.points.now) (seen_order c.args.order.now) c.loop-position.position
    (omega (arith, same, c.loop-position-test.false)) c.loop-position.invariant.kept

pub returns-then-not-comes_before-clause-wrong : goal.returns-then-not-comes_before-clause-wrong
returns-then-not-comes_before-clause-wrong c = λ keeps.
    not_both c.comes_before.result
    (c.comes_before.ensures.1
    (next_not_late (seen_table c.args.points.now) (seen_order c.args.order.now) c.loop-position.position
    (seen_placed c.stands_at.result.0.now) (seen c.stands_at.result.1.now) c.loop-position.latest.items c.stands_at.ensures.stands
    c.loop-position.invariant.least keeps))
    c.if-not-comes_before.true

pub loop-position-init : goal.loop-position-init
loop-position-init c =
    let t = seen_table c.args.points.now in
    let o = seen_order c.args.order.now in
    let items = c.in_ok-latest.ensures.items_if_clones_equal (λ y e. e) in
    record {
      latest_are = none_latest t o c.in_ok-latest.latest.items items;
      least = none_least t o c.in_ok-latest.latest.items items;
      kept = λ i j x p p' q q' less none s sure put has s' has'. absurd (omega arith);
    }
