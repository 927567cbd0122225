use Rattle.std.proofs.Common.{◌≡◌, map, sym, subst, ◌∙◌, arith}
use Rattle.std.proofs.lemmas.List.{length-map}
use Rattle.nvm_standard.specs.PointView.{PointView, seen, seen_table}
use Rattle.nvm_standard.specs.Inside.Right.{IsAsPresent}
use Rattle.nvm_standard.specs.OrderView.{seen_order}
use Rattle.nvm_standard.proofs.Present.{as_present, present_of}
use Rattle.nvm_standard.proofs.Standing.{not_both, read_seen, some_same}
use Rattle.nvm_standard.proofs.checking.check_point.Goals as goal

pub returns-in-None-clause-present : goal.returns-in-None-clause-present
returns-in-None-clause-present c = λ q its.
    let t = seen_table c.args.points.now in
    let o = seen_order c.args.order.now in
    let n = c.args.number in
    let points = c.args.points.now.points.items in
    let rows = c.args.rows.now.items in
    let row = c.index-2.result.now.items in
    let there = c.requires.there in
    let many = c.requires.rows.many in
    let long = length-map rows (λ row. row.items) in
    let long' = length-map points seen in
    let at' = read_seen seen points n c.index.result.now there c.index.ensures in
    let at = read_seen (λ row. row.items) rows n c.index-2.result.now (omega (arith, there, many, long, long')) c.index-2.ensures in
    let same : seen c.index.result.now ≡ q = some_same (seen c.index.result.now) q (sym at' ∙ its) in
    present_of t o (map (λ row. row.items) rows) n q row c.requires.fits c.requires.rows its at
    (subst (λ (r : PointView). IsAsPresent r row) same (c.is_as_present.ensures.0 c.if-not-is_as_present.false))
    (λ after. c.follows.ensures.right q its after c.if-not-follows.false)

pub returns-then-not-is_as_present-clause-fault : goal.returns-then-not-is_as_present-clause-fault
returns-then-not-is_as_present-clause-fault c = λ own present tied.
    let t = seen_table c.args.points.now in
    let o = seen_order c.args.order.now in
    let n = c.args.number in
    let points = c.args.points.now.points.items in
    let rows = c.args.rows.now.items in
    let q = seen c.index.result.now in
    let row = c.index-2.result.now.items in
    let there = c.requires.there in
    let many = c.requires.rows.many in
    let long = length-map rows (λ row. row.items) in
    let long' = length-map points seen in
    let its = read_seen seen points n c.index.result.now there c.index.ensures in
    let at = read_seen (λ row. row.items) rows n c.index-2.result.now (omega (arith, there, many, long, long')) c.index-2.ensures in
    not_both c.is_as_present.result
    (c.is_as_present.ensures.1 (as_present t o n q row c.requires.fits its (c.requires.rows.each n q row its at) (present n q its)))
    c.if-not-is_as_present.true

pub returns-then-not-follows-clause-fault : goal.returns-then-not-follows-clause-fault
returns-then-not-follows-clause-fault c = λ own present tied.
    not_both c.follows.result (c.follows.ensures.wrong (seen_order c.args.order.now) c.requires.rows c.requires.fits present) c.if-not-follows.true
