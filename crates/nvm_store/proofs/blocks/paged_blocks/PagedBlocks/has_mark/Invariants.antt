use Rattle.std.proofs.Common.{◌≡◌, ◌+◌, ◌≤◌, length}
use Rattle.nvm_record.specs.Medium as medium
use Rattle.nvm_store.specs.Inside.Rewrite.{stretch_of}
use Rattle.nvm_store.proofs.blocks.paged_blocks.PagedBlocks.has_mark.Given as goal

-- No block so far is marked, so what is left decides.
abbrev pub invariant-loop-left : goal.invariant-loop-left
invariant-loop-left l = record {
  range : l.from + l.left ≤ length l.self.list;
  mark : medium.has_mark (stretch_of l.at l.count l.self.list) ≡ medium.has_mark (stretch_of l.from l.left l.self.list);
}

abbrev pub decreases-loop-left : goal.decreases-loop-left
decreases-loop-left l = l.left
