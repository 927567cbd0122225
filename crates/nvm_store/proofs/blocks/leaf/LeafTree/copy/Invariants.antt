use Rattle.std.proofs.Common.{◌≡◌, take}
use Rattle.nvm_store.proofs.blocks.leaf.LeafTree.copy.Given as goal

abbrev pub invariant-loop-block : goal.invariant-loop-block
invariant-loop-block l = l.copies.items ≡ take l.block-index l.block-items
