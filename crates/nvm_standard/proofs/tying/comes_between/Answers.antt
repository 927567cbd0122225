use Rattle.std.proofs.Common.{◌≡◌, ℕ, true, arith}
use Rattle.std.proofs.lemmas.List.{length-map}
use Rattle.nvm_standard.specs.PointView.{seen, seen_table}
use Rattle.nvm_standard.specs.Clauses.{KeepsTied}
use Rattle.nvm_standard.specs.Inside.Right.{KeepsTiedOne, StaysOut}
use Rattle.nvm_standard.specs.OrderView.{seen_order}
use Rattle.nvm_standard.proofs.Standing.{if_none, if_some, read_seen}
use Rattle.nvm_standard.proofs.Tied.{out_of_keeps, tied_one}
use Rattle.nvm_standard.proofs.tying.comes_between.Goals as goal

pub returns-clause-right : goal.returns-clause-right
returns-clause-right c =
    let t = seen_table c.args.points.now in
    let o = seen_order c.args.order.now in
    let n = c.args.number in
    let q = seen c.index-point.result.now in
    let row = c.index.result.now.items in
    let there = c.requires.there in
    let many = c.requires.rows.many in
    let long = length-map c.args.rows.now.items (λ row. row.items) in
    let long' = length-map c.args.points.now.points.items seen in
    let its = read_seen seen c.args.points.now.points.items n c.index-point.result.now there c.index-point.ensures in
    let at = read_seen (λ row. row.items) c.args.rows.now.items n c.index.result.now (omega (arith, there, many, long, long')) c.index.ensures in
    let tied : q.tied ≡ true = c.if-not-point.false in
    if_none c.between.result ((j : ℕ) → StaysOut t o row q.first j) (KeepsTiedOne t o n)
    (tied_one t o n q row c.requires.fits its ((c.requires.kept q its).tied tied) (c.requires.rows.each n q row its at))
    c.between.ensures.right

pub returns-clause-wrong : goal.returns-clause-wrong
returns-clause-wrong c =
    let t = seen_table c.args.points.now in
    let o = seen_order c.args.order.now in
    let n = c.args.number in
    let q = seen c.index-point.result.now in
    let row = c.index.result.now.items in
    let there = c.requires.there in
    let many = c.requires.rows.many in
    let long = length-map c.args.rows.now.items (λ row. row.items) in
    let long' = length-map c.args.points.now.points.items seen in
    let its = read_seen seen c.args.points.now.points.items n c.index-point.result.now there c.index-point.ensures in
    let at = read_seen (λ row. row.items) c.args.rows.now.items n c.index.result.now (omega (arith, there, many, long, long')) c.index.ensures in
    let tied : q.tied ≡ true = c.if-not-point.false in
    if_some c.between.result ((j : ℕ) → StaysOut t o row q.first j) (KeepsTied t o)
    (out_of_keeps t o n q row its tied (c.requires.rows.each n q row its at)) c.between.ensures.wrong
