use Rattle.std.proofs.Common.{◌≡◌, ◌++◌, ◌∷◌, ◌<◌, [], List, ℕ, length, map, sym, ap, subst, ◌∙◌, arith}
use Rattle.std.proofs.lemmas.Bool.{false≢true}
use Rattle.std.proofs.lemmas.List.{length-append, length-map, map-append}
use Rattle.nvm_record.specs.Lists.{IsAt}
use Rattle.nvm_trace.specs.Inside.Matching.{AreMatched}
use Rattle.nvm_trace.specs.Pieces.{Piece, piece, job_of}
use Rattle.nvm_trace.proofs.Matched.{matched_more, other_found}
use Rattle.nvm_trace.proofs.Places.{below}
use Rattle.nvm_trace.proofs.matching.put_owner.Goals as goal

pub returns-then-not-has_piece-clause-matched : goal.returns-then-not-has_piece-clause-matched
returns-then-not-has_piece-clause-matched c = λ ps matched.
    let owners = c.args.owners.now.items in
    let next : Piece = piece c.args.owner.whole.now c.args.owner.cut in
    let right = c.has_piece.ensures in
    let long = length-map owners (λ o. piece o.whole.now o.cut) in
    other_found c.args.geometry.now ps c.args.jobs.now.items (map (λ o. piece o.whole.now o.cut) owners) matched next c.len-number.result
    (omega (arith, c.len-number.ensures, long)) (λ at. false≢true (sym c.if-not-has_piece.true ∙ right.1 at))

pub returns-clause-next : goal.returns-clause-next
returns-clause-next c =
    let owners = c.args.owners.now.items in
    let next : Piece = piece c.args.owner.whole.now c.args.owner.cut in
    let right = c.has_piece.ensures in
    let found : c.len-number.result < length c.args.jobs.now.items =
    below c.args.jobs.now.items c.len-number.result (job_of c.args.geometry.now next) (right.0 c.if-not-has_piece.false) in
    let new = ap length c.in_ok-push.ensures.items in
    let long = length-append owners (c.args.owner ∷ []) in
    (omega (arith, found, c.len-number.ensures), omega (arith, new, long))

pub returns-clause-matched : goal.returns-clause-matched
returns-clause-matched c = λ ps matched.
    let jobs = c.args.jobs.now.items in
    let owners = c.args.owners.now.items in
    let next : Piece = piece c.args.owner.whole.now c.args.owner.cut in
    let right = c.has_piece.ensures in
    let long = length-map owners (λ o. piece o.whole.now o.cut) in
    let there =
    subst (λ (n : ℕ). IsAt jobs n (job_of c.args.geometry.now next)) (omega (arith, c.len-number.ensures, long))
    (right.0 c.if-not-has_piece.false) in
    let new : map (λ o. piece o.whole.now o.cut) c.push.new.self.items ≡ map (λ o. piece o.whole.now o.cut) owners ++ next ∷ [] =
    ap (λ os. map (λ o. piece o.whole.now o.cut) os) c.in_ok-push.ensures.items ∙ map-append (λ o. piece o.whole.now o.cut) owners (c.args.owner ∷ []) in
    subst (λ (os : List Piece). AreMatched c.args.geometry.now (ps ++ next ∷ []) jobs os) (sym new)
    (matched_more c.args.geometry.now ps jobs (map (λ o. piece o.whole.now o.cut) owners) matched next there)
