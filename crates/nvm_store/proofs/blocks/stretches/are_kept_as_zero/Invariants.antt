use Rattle.std.proofs.Common.{◌≡◌, All, drop}
use Rattle.nvm_store.specs.Inside.Rewrite.{zero_block}
use Rattle.nvm_store.proofs.blocks.stretches.are_kept_as_zero.Given as goal

-- All blocks so far are zero, so what is left decides.
abbrev pub invariant-loop-block : goal.invariant-loop-block
invariant-loop-block l =
    All (λ block. block ≡ zero_block l.size) (drop l.block-index l.blocks) → All (λ block. block ≡ zero_block l.size) l.blocks
