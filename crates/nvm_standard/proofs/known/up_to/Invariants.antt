use Rattle.std.proofs.Common.{Contains}
use Rattle.nvm_standard.specs.PointView.{seen_table}
use Rattle.nvm_standard.specs.Inside.Noted.{IsNoted, IsNotedThere}
use Rattle.nvm_standard.specs.Standing.{IsUpTo}
use Rattle.nvm_standard.specs.declared.node.Node.{Node}
use Rattle.nvm_standard.proofs.known.up_to.Given as goal

abbrev pub invariant-loop-noted : goal.invariant-loop-noted
invariant-loop-noted l =
    (x : Node) → Contains l.nodes.items x → IsUpTo (IsNotedThere (seen_table l.points) l.known.there.items) (IsNoted l.known.orders.items) x l.node
