use Rattle.std.proofs.Common.{◌≡◌, ◌-◌, true, map, sym, subst, ◌∙◌, arith}
use Rattle.nvm_standard.specs.PointView.{PointView, seen, seen_table}
use Rattle.nvm_standard.specs.Inside.Right.{FollowsRow}
use Rattle.nvm_standard.proofs.Present.{after_present}
use Rattle.nvm_standard.proofs.Standing.{read_seen, some_same}
use Rattle.nvm_standard.proofs.following.follows.Goals as goal

pub returns-clause-right : goal.returns-clause-right
returns-clause-right c = λ q its after holds.
    let points = c.args.points.now.points.items in
    let rows = c.args.rows.now.items in
    let n = c.args.number in
    let p = c.index-point.result.now in
    let r = c.index.result.now in
    let b = c.index-2.result.now in
    let there = c.requires.there in
    let many = c.requires.many in
    let at = read_seen seen points n p there c.index-point.ensures in
    let same : seen p ≡ q = some_same (seen p) q (sym at ∙ its) in
    let after' : (seen p).after ≡ true = subst (λ (m : PointView). m.after ≡ true) (sym same) after in
    let one : FollowsRow (seen_table c.args.points.now) (map (λ row. row.items) rows) n (seen p) =
    record {
      kept = (c.requires.kept (seen p) at).after after';
      before = n - 1;
      next = omega arith;
      point = seen c.index-before.result.now;
      its = read_seen seen points (n - 1) c.index-before.result.now (omega arith) c.index-before.ensures;
      row = r.items;
      at = read_seen (λ row. row.items) rows n r (omega arith) c.index.ensures;
      row_before = b.items;
      at_before = read_seen (λ row. row.items) rows (n - 1) b (omega arith) c.index-2.ensures;
      after = c.comes_after.ensures.0 holds;
    } in
    subst (FollowsRow (seen_table c.args.points.now) (map (λ row. row.items) rows) n) same one

pub returns-clause-wrong : goal.returns-clause-wrong
returns-clause-wrong c = λ o are right present.
    let t = seen_table c.args.points.now in
    let points = c.args.points.now.points.items in
    let rows = c.args.rows.now.items in
    let n = c.args.number in
    let p = c.index-point.result.now in
    let r = c.index.result.now in
    let b = c.index-2.result.now in
    let there = c.requires.there in
    let many = c.requires.many in
    let its = read_seen seen points n p there c.index-point.ensures in
    let its' = read_seen seen points (n - 1) c.index-before.result.now (omega arith) c.index-before.ensures in
    let after : (seen p).after ≡ true = c.if-not-point.false in
    let kept = c.requires.kept (seen p) its in
    c.comes_after.ensures.1
    (after_present t o (map (λ row. row.items) rows) n (seen p) (seen c.index-before.result.now) r.items b.items right are (kept.first after) its
    (read_seen (λ row. row.items) rows n r (omega arith) c.index.ensures) its'
    (read_seen (λ row. row.items) rows (n - 1) b (omega arith) c.index-2.ensures)
    (kept.before after (seen c.index-before.result.now) its') ((present n (seen p) its).after after))

pub returns-then-number-eq0-clause-wrong : goal.returns-then-number-eq0-clause-wrong
returns-then-number-eq0-clause-wrong c = λ o are right present.
    let p = c.index-point.result.now in
    let its = read_seen seen c.args.points.now.points.items c.args.number p c.requires.there c.index-point.ensures in
    let after : (seen p).after ≡ true = c.if-not-point.false in
    let first = (c.requires.kept (seen p) its).first after in absurd (omega (arith, first))
