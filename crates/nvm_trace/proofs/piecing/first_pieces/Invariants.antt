use Rattle.std.proofs.Common.{◌≡◌, map, take}
use Rattle.nvm_trace.specs.Pieces.{piece, pieces_in}
use Rattle.nvm_trace.proofs.piecing.first_pieces.Given as goal

abbrev pub invariant-loop-number : goal.invariant-loop-number
invariant-loop-number l =
    map (λ o. piece o.whole.now o.cut) l.owners.items
    ≡ take l.most (pieces_in l.judging l.trace.namespace l.trace.reads (take l.number l.trace.jobs))
