use Rattle.std.proofs.Common.{◌≡◌, ◌++◌, List, map, take, subst, arith}
use Rattle.std.proofs.lemmas.List.{take_all, length-map}
use Rattle.std.proofs.lemmas.List.FromFn.{length-range_with_len}
use Rattle.std.specs.List.{range_with_len}
use Rattle.nvm_trace.specs.declared.cut.Cut.{Cut}
use Rattle.nvm_trace.specs.declared.cut.Cut.TheVariants.{Block}
use Rattle.nvm_trace.specs.Pieces.{Piece, piece}
use Rattle.nvm_trace.proofs.Matched.{block_there, one_more}
use Rattle.nvm_trace.proofs.piecing.put_blocks.Goals as goal

pub loop-k-preserved : goal.loop-k-preserved
loop-k-preserved c = λ ps topped.
    let traced = c.args.traced.now in
    let k = c.loop-k.k in
    let all = map (piece traced) (map Block (range_with_len 0 c.args.blocks)) in
    let there = block_there traced c.args.blocks k c.loop-k-test.true in
    subst (λ (qs : List Piece). map (λ o. piece o.whole.now o.cut) c.put_piece.new.owners.items ≡ take c.args.most qs)
    (one_more ps all k (piece traced (Block k)) there)
    (c.in_ok-put_piece.ensures (ps ++ take k all) (c.loop-k.invariant ps topped))

pub returns : goal.returns
returns c = λ ps topped.
    let traced = c.args.traced.now in
    let numbers = range_with_len 0 c.args.blocks in
    let cuts : List Cut = map Block numbers in
    let all = map (piece traced) cuts in
    let long = length-map cuts (piece traced) in
    let long' = length-map numbers Block in
    let many = length-range_with_len 0 c.args.blocks in
    let end = take_all c.loop-k.k all (omega (arith, long, long', many, c.loop-k-test.false)) in
    subst (λ (qs : List Piece). map (λ o. piece o.whole.now o.cut) c.loop-k.owners.items ≡ take c.args.most (ps ++ qs))
    end (c.loop-k.invariant ps topped)
