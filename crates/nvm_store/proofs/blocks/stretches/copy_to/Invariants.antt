use Rattle.std.proofs.Common.{◌≡◌, ◌+◌, ◌++◌, drop, length, take}
use Rattle.nvm_record.specs.Medium as medium
use Rattle.nvm_store.proofs.blocks.stretches.copy_to.Given as goal

-- The bytes of the blocks that are left complete the whole, and there is room for them.
abbrev pub invariant-loop-block : goal.invariant-loop-block
invariant-loop-block l = record {
  end : l.to + length (medium.joined (drop l.block-index l.blocks)) ≡ l.from + length (medium.joined l.blocks);
  same : length l.buffer ≡ length l.initial.buffer;
  bytes : take l.to l.buffer ++ medium.joined (drop l.block-index l.blocks) ≡ take l.from l.initial.buffer ++ medium.joined l.blocks;
}
