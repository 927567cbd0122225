use Rattle.std.proofs.Common.{Contains}
use Rattle.nvm_standard.specs.PointView.{seen_table}
use Rattle.nvm_standard.specs.Inside.Noted.{IsNoted, IsNotedThere}
use Rattle.nvm_standard.specs.Standing.{IsFrom}
use Rattle.nvm_standard.specs.declared.node.Node.{Node}
use Rattle.nvm_standard.proofs.known.from.Given as goal

abbrev pub invariant-loop-noted : goal.invariant-loop-noted
invariant-loop-noted l =
    (y : Node) → Contains l.nodes.items y → IsFrom (IsNotedThere (seen_table l.points) l.known.there.items) (IsNoted l.known.orders.items) l.node y
