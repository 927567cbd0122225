use Rattle.std.proofs.Common.{◌≡◌, take}
use Rattle.nvm_store.specs.Inside.Tree.{parts_of}
use Rattle.nvm_store.proofs.blocks.fork.ForkTree.copy.Given as goal

abbrev pub invariant-loop-kid : goal.invariant-loop-kid
invariant-loop-kid g l =
    parts_of g.T.Tree.blocks l.copies.items ≡ take l.kid-index (parts_of g.T.Tree.blocks l.kid-items)
