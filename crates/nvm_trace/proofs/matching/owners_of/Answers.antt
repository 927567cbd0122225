use Rattle.std.proofs.Common.{◌<◌, length, take, arith}
use Rattle.std.proofs.lemmas.Result.{err_from_is_err_and}
use Rattle.nvm_trace.specs.Pieces.{pieces_in}
use Rattle.nvm_trace.proofs.Matched.{fault_in_all}
use Rattle.nvm_trace.proofs.matching.owners_of.Goals as goal

pub returns-in_err-match_pieces-clause-matched : goal.returns-in_err-match_pieces-clause-matched
returns-in_err-match_pieces-clause-matched c =
    let traced = c.args.traced.now.items in
    let number = c.loop-number.number in
    let low : number < length traced = omega (arith, c.loop-number-test.true, c.len-number-end.ensures) in
    let p = err_from_is_err_and c.from_residual-in_err-match_pieces.result c.from_residual-in_err-match_pieces.ensures.1 in
    rw (p.1, p.2)
    (fault_in_all c.args.judging c.args.geometry.now c.args.reads traced number c.index.result.now low c.index.ensures c.args.jobs.now.items
    c.in_err-match_pieces.field-0.0
    (c.in_err-match_pieces.ensures.matched (pieces_in c.args.judging c.args.geometry.now c.args.reads (take number traced)) c.loop-number.invariant.matched))
