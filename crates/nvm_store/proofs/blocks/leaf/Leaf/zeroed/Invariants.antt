use Rattle.std.proofs.Common.{◌≡◌, replicate}
use Rattle.nvm_store.specs.Inside.Rewrite.{zero_block}
use Rattle.nvm_store.proofs.blocks.leaf.Leaf.zeroed.Given as goal

abbrev pub invariant-loop : goal.invariant-loop
invariant-loop l = l.kept.items ≡ replicate l.counter (zero_block l.size)
