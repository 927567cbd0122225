use Rattle.std.proofs.Common.{◌≡◌, ℕ, ◌+◌, ◌≤◌, max, subst, arith}
use Rattle.std.proofs.lemmas.List.{length-map}
use Rattle.nvm_standard.specs.PointView.{seen, seen_table}
use Rattle.nvm_standard.specs.Inside.Timely.{BeganBy}
use Rattle.nvm_standard.specs.OrderView.{seen_order, seen_placed}
use Rattle.nvm_standard.proofs.Standing.{not_both}
use Rattle.nvm_standard.proofs.Timely.{began_more, keeps_all, keeps_more, least_more, next_in_time}
use Rattle.nvm_standard.proofs.timing.time_back.Goals as goal

pub loop-position-preserved : goal.loop-position-preserved
loop-position-preserved c =
    let t = seen_table c.args.points.now in
    let o = seen_order c.args.order.now in
    let k = c.loop-position.position in
    let p = seen_placed c.stands_at.result.0.now in
    let q = seen c.stands_at.result.1.now in
    let before = c.loop-position.invariant in
    let e : max q.from c.loop-position.latest ≡ c.max-latest.result = omega arith in
    record {
      kept =
          keeps_more t o k c.loop-position.latest p q c.stands_at.ensures.stands (c.is_in_time.ensures.0 c.if-not-is_in_time.false)
          before.began before.kept;
      began = subst (BeganBy t o (k + 1)) e (began_more t o k c.loop-position.latest p q c.stands_at.ensures.stands before.began);
      least = λ m by.
          subst (λ (n : ℕ). n ≤ m) e (least_more t o k c.loop-position.latest p q c.stands_at.ensures.stands before.least m by);
    }

pub returns-then-not-is_in_time-clause-wrong : goal.returns-then-not-is_in_time-clause-wrong
returns-then-not-is_in_time-clause-wrong c = λ keeps.
    not_both c.is_in_time.result
    (c.is_in_time.ensures.1
    (next_in_time (seen_table c.args.points.now) (seen_order c.args.order.now) c.loop-position.position c.loop-position.latest
    (seen_placed c.stands_at.result.0.now) (seen c.stands_at.result.1.now) c.stands_at.ensures.stands c.loop-position.invariant.least keeps))
    c.if-not-is_in_time.true

pub returns-clause-right : goal.returns-clause-right
returns-clause-right c =
    let same = length-map c.args.order.now.placed.items seen_placed in
    keeps_all (seen_table c.args.points.now) (seen_order c.args.order.now) c.loop-position.position
    (omega (arith, same, c.loop-position-test.false)) c.loop-position.invariant.kept
