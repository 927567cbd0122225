use Rattle.std.proofs.Common.{◌≡◌, ◌+◌, ◌≤◌, length, false}
use Rattle.nvm_record.specs.Medium as medium
use Rattle.nvm_store.specs.Inside.Rewrite.{stretch_of}
use Rattle.nvm_store.proofs.blocks.paged_blocks.PagedBlocks.is_equal.Given as goal

-- The data began with the bytes so far, so what is left of both decides.
abbrev pub invariant-loop-left : goal.invariant-loop-left
invariant-loop-left l = record {
  range : l.from + l.left ≤ length l.self.list;
  unmarked : medium.has_mark (stretch_of l.from l.left l.self.list) ≡ false;
  on : medium.joined (stretch_of l.at l.count l.self.list) ≡ l.payload → medium.joined (stretch_of l.from l.left l.self.list) ≡ l.rest;
  back : medium.joined (stretch_of l.from l.left l.self.list) ≡ l.rest → medium.joined (stretch_of l.at l.count l.self.list) ≡ l.payload;
}

abbrev pub decreases-loop-left : goal.decreases-loop-left
decreases-loop-left l = l.left
