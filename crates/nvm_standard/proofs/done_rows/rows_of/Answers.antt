use Rattle.std.proofs.Common.{◌≡◌, ℕ, length, map, subst, arith}
use Rattle.std.proofs.lemmas.List.{length-map}
use Rattle.nvm_standard.specs.PointView.{seen_table}
use Rattle.nvm_standard.specs.Inside.Done.{AreRows}
use Rattle.nvm_standard.specs.OrderView.{seen_order, seen_placed}
use Rattle.nvm_standard.proofs.done_rows.rows_of.Goals as goal

pub returns-clause-right : goal.returns-clause-right
returns-clause-right c =
    let same = length-map c.args.order.now.placed.items seen_placed in
    let e : c.loop-position.position ≡ length (seen_order c.args.order.now).placed = omega (arith, same) in
    subst (λ (k : ℕ). AreRows (seen_table c.args.points.now) (seen_order c.args.order.now) k (map (λ row. row.items) c.loop-position.rows.items)) e
    c.loop-position.invariant
