use Rattle.std.proofs.Common.{◌≡◌, replicate}
use Rattle.std.specs.Arc.{arc_value}
use Rattle.nvm_store.specs.Inside.Tree.{parts_of}
use Rattle.nvm_store.proofs.blocks.fork.Fork.of.Given as goal

abbrev pub invariant-loop : goal.invariant-loop
invariant-loop g l = parts_of g.T.Tree.blocks l.kids.items ≡ replicate l.counter (g.T.Tree.blocks (arc_value l.node))
