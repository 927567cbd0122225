use Rattle.std.proofs.Common.{◌++◌, ◌≤◌, List, length, map, take}
use Rattle.std.specs.List.{range_with_len}
use Rattle.nvm_trace.specs.declared.cut.Cut.TheVariants.{Block}
use Rattle.nvm_trace.specs.Inside.Matching.{AreMatched}
use Rattle.nvm_trace.specs.Pieces.{Piece, piece}
use Rattle.nvm_trace.proofs.matching.match_blocks.Given as goal

abbrev pub invariant-loop-k : goal.invariant-loop-k
invariant-loop-k l = record {
  within : length l.owners.items ≤ length l.jobs.items;
  matched : (ps : List Piece) → AreMatched l.geometry ps l.jobs.items (map (λ o. piece o.whole.now o.cut) l.fn.owners.items)
      → AreMatched l.geometry (ps ++ take l.k (map (piece l.traced) (map Block (range_with_len 0 l.blocks)))) l.jobs.items
      (map (λ o. piece o.whole.now o.cut) l.owners.items);
}
