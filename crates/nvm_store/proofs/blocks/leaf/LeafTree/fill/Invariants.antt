use Rattle.std.proofs.Common.{◌+◌, ◌-◌, ℕ}
use Rattle.nvm_store.specs.Inside.Rewrite.{IsRewritten}
use Rattle.nvm_store.specs.Inside.Source.{source_block}
use Rattle.nvm_store.proofs.blocks.leaf.LeafTree.fill.Given as goal

abbrev pub invariant-loop-place : goal.invariant-loop-place
invariant-loop-place l =
    IsRewritten l.at (l.place - l.at) (λ (i : ℕ). source_block l.source (l.from + i)) l.fn.self l.self
