use Rattle.std.proofs.Common.{◌++◌, List, map, take, subst, arith}
use Rattle.std.proofs.lemmas.List.{take_all, length-map}
use Rattle.std.proofs.lemmas.List.FromFn.{length-range_with_len}
use Rattle.std.proofs.lemmas.Result.{err_from_is_err_and}
use Rattle.std.specs.List.{range_with_len}
use Rattle.nvm_trace.specs.declared.cut.Cut.{Cut}
use Rattle.nvm_trace.specs.declared.cut.Cut.TheVariants.{Block}
use Rattle.nvm_trace.specs.Inside.Matching.{AreMatched}
use Rattle.nvm_trace.specs.Pieces.{Piece, piece}
use Rattle.nvm_trace.proofs.Matched.{block_there, one_more, fault_there}
use Rattle.nvm_trace.proofs.matching.match_blocks.Goals as goal

pub returns-in_err-put_owner-clause-matched : goal.returns-in_err-put_owner-clause-matched
returns-in_err-put_owner-clause-matched c = λ ps matched.
    let jobs = c.args.jobs.now.items in
    let traced = c.args.traced.now in
    let k = c.loop-k.k in
    let all = map (piece traced) (map Block (range_with_len 0 c.args.blocks)) in
    let p = err_from_is_err_and c.from_residual.result c.from_residual.ensures.1 in
    rw (p.1, p.2)
    (fault_there ps all k (piece traced (Block k)) (block_there traced c.args.blocks k c.loop-k-test.true) c.args.geometry.now jobs
    c.in_err-put_owner.field-0.0 (c.in_err-put_owner.ensures.matched (ps ++ take k all) (c.loop-k.invariant.matched ps matched)))

pub loop-k-preserved : goal.loop-k-preserved
loop-k-preserved c =
    let jobs = c.args.jobs.now.items in
    let traced = c.args.traced.now in
    let k = c.loop-k.k in
    let all = map (piece traced) (map Block (range_with_len 0 c.args.blocks)) in
    let there = block_there traced c.args.blocks k c.loop-k-test.true in
    record {
      within =
          let low = c.in_ok-put_owner.ensures.next.0 in
          let long = c.in_ok-put_owner.ensures.next.1 in
          omega (arith, low, long);
      matched = λ ps matched.
          subst
          (λ (qs : List Piece). AreMatched c.args.geometry.now qs jobs (map (λ o. piece o.whole.now o.cut) c.put_owner.new.owners.items))
          (one_more ps all k (piece traced (Block k)) there)
          (c.in_ok-put_owner.ensures.matched (ps ++ take k all) (c.loop-k.invariant.matched ps matched));
    }

pub returns-clause-matched : goal.returns-clause-matched
returns-clause-matched c = λ ps matched.
    let traced = c.args.traced.now in
    let numbers = range_with_len 0 c.args.blocks in
    let cuts : List Cut = map Block numbers in
    let all = map (piece traced) cuts in
    let long = length-map cuts (piece traced) in
    let long' = length-map numbers Block in
    let many = length-range_with_len 0 c.args.blocks in
    let end = take_all c.loop-k.k all (omega (arith, long, long', many, c.loop-k-test.false)) in
    subst
    (λ (qs : List Piece). AreMatched c.args.geometry.now (ps ++ qs) c.args.jobs.now.items (map (λ o. piece o.whole.now o.cut) c.loop-k.owners.items))
    end (c.loop-k.invariant.matched ps matched)
