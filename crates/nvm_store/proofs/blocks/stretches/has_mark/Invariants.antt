use Rattle.std.proofs.Common.{◌≡◌, drop}
use Rattle.nvm_record.specs.Medium as medium
use Rattle.nvm_store.proofs.blocks.stretches.has_mark.Given as goal

-- No block so far is marked, so what is left decides.
abbrev pub invariant-loop-block : goal.invariant-loop-block
invariant-loop-block l = medium.has_mark l.blocks ≡ medium.has_mark (drop l.block-index l.blocks)
