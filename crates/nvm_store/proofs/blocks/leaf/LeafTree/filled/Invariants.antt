use Rattle.std.proofs.Common.{◌≡◌, ◌+◌, ℕ, length}
use Rattle.nvm_store.specs.Inside.Source.{source_block}
use Rattle.nvm_store.proofs.Rewrites.{IsBegun}
use Rattle.nvm_store.proofs.blocks.leaf.LeafTree.filled.Given as goal

abbrev pub invariant-loop-place : goal.invariant-loop-place
invariant-loop-place l = record {
  len : length l.copies.items ≡ l.place;
  begun : IsBegun l.at l.count (λ (i : ℕ). source_block l.source (l.from + i)) l.self l.copies.items;
}
