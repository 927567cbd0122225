use Rattle.std.proofs.Common.{◌++◌, List, map, sym, subst}
use Rattle.std.specs.Prelude.{MatchResult}
use Rattle.nvm_trace.specs.declared.cut.Cut.{Cut}
use Rattle.nvm_trace.specs.Inside.Matching.{AreMatched, IsOtherFault}
use Rattle.nvm_trace.specs.Pieces.{piece}
use Rattle.nvm_trace.proofs.matching.match_pieces.Goals as goal

pub returns-in-Whole-clause-matched : goal.returns-in-Whole-clause-matched
returns-in-Whole-clause-matched c = λ ps matched.
    let ns = c.args.geometry.now in
    let jobs = c.args.jobs.now.items in
    let traced = c.args.traced.now in
    let owners = map (λ o. piece o.whole.now o.cut) c.put_owner.new.owners.items in
    subst
    (λ (cuts : List Cut). MatchResult c.put_owner.result (λ _. AreMatched ns (ps ++ map (piece traced) cuts) jobs owners)
    (IsOtherFault ns (ps ++ map (piece traced) cuts) jobs))
    (sym c.in-Whole.ensures) (c.put_owner.ensures.matched ps matched)
