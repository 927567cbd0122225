use Rattle.std.proofs.Common.{◌≡◌, ◌++◌, drop}
use Rattle.nvm_record.specs.Medium as medium
use Rattle.nvm_store.proofs.blocks.stretches.push_bytes.Given as goal

-- The bytes of the blocks that are left complete the whole.
abbrev pub invariant-loop-block : goal.invariant-loop-block
invariant-loop-block l =
    l.bytes.items ++ medium.joined (drop l.block-index l.blocks) ≡ l.initial.bytes.items ++ medium.joined l.blocks
