use Rattle.std.proofs.Common.{◌≡◌, ◌++◌, List, map, take}
use Rattle.std.specs.List.{range_with_len}
use Rattle.nvm_trace.specs.declared.cut.Cut.TheVariants.{Block}
use Rattle.nvm_trace.specs.Pieces.{Piece, piece}
use Rattle.nvm_trace.proofs.piecing.put_blocks.Given as goal

abbrev pub invariant-loop-k : goal.invariant-loop-k
invariant-loop-k l =
    (ps : List Piece) → map (λ o. piece o.whole.now o.cut) l.fn.owners.items ≡ take l.most ps
    → map (λ o. piece o.whole.now o.cut) l.owners.items ≡ take l.most (ps ++ take l.k (map (piece l.traced) (map Block (range_with_len 0 l.blocks))))
