use Rattle.std.proofs.Common.{◌≡◌, ◌+◌, ◌≤◌, ◌++◌, length, false}
use Rattle.nvm_record.specs.Medium as medium
use Rattle.nvm_store.specs.Inside.Rewrite.{stretch_of}
use Rattle.nvm_store.proofs.blocks.paged_blocks.PagedBlocks.push_bytes.Given as goal

-- The bytes of the blocks that are left complete the whole.
abbrev pub invariant-loop-left : goal.invariant-loop-left
invariant-loop-left l = record {
  range : l.from + l.left ≤ length l.self.list;
  unmarked : medium.has_mark (stretch_of l.from l.left l.self.list) ≡ false;
  bytes : l.bytes.items ++ medium.joined (stretch_of l.from l.left l.self.list)
      ≡ l.initial.bytes.items ++ medium.joined (stretch_of l.at l.count l.self.list);
}

abbrev pub decreases-loop-left : goal.decreases-loop-left
decreases-loop-left l = l.left
