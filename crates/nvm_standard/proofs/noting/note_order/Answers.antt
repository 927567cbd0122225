use Rattle.std.proofs.Common.{Option, subst}
use Rattle.std.specs.Prelude.{OnOk}
use Rattle.nvm_standard.specs.PointView.{seen_table}
use Rattle.nvm_standard.specs.Inside.Noted.{IsNoted, IsNotedThere}
use Rattle.nvm_standard.specs.Standing.{IsBeforeWith}
use Rattle.nvm_standard.specs.declared.known.Order.{Order}
use Rattle.nvm_standard.specs.declared.node.Node.{Node}
use Rattle.nvm_standard.proofs.noting.note_order.Goals as goal

pub returns-in-Some-clause-noted : goal.returns-in-Some-clause-noted
returns-in-Some-clause-noted c =
    subst
    (λ (o : Option Order). OnOk c.note.result
    ((x y : Node) → IsNoted c.note.new.known.orders.items x y
    → IsBeforeWith (IsNotedThere (seen_table c.args.points.now) c.args.known.now.there.items) (IsNoted c.args.known.now.orders.items) o x y))
    c.in-Some.ensures c.note.ensures.noted
