use Rattle.std.proofs.Common.{◌≤◌, ◌∙◌, List, length, take, drop, ap, sym, arith}
use Rattle.std.proofs.lemmas.Grind.{flat_map-append}
use Rattle.std.proofs.lemmas.List.{length-map, take-append-drop}
use Rattle.nvm_trace.specs.declared.traced_job.TracedJob.{TracedJob}
use Rattle.nvm_trace.specs.Pieces.{Piece, piece, pieces_in, pieces_of}
use Rattle.nvm_trace.proofs.Topped.{take_full}
use Rattle.nvm_trace.proofs.piecing.first_pieces.Goals as goal

pub returns-then-len-most : goal.returns-then-len-most
returns-then-len-most c =
    let t = c.args.trace.now in
    let most = c.args.most in
    let number = c.loop-number.number in
    let f = pieces_of c.args.judging t.namespace t.reads in
    let front = take number t.jobs in
    let rest = drop number t.jobs in
    let first = pieces_in c.args.judging t.namespace t.reads front in
    let later = pieces_in c.args.judging t.namespace t.reads rest in
    let held = length-map c.loop-number.owners.items (λ o. piece o.whole.now o.cut) in
    let same = ap length c.loop-number.invariant in
    let full : most ≤ length (take most first) = omega (arith, held, same, c.if-len-most.true, c.len.ensures) in
    c.loop-number.invariant
    ∙ take_full most first later full
    ∙ ap (λ (ps : List Piece). take most ps)
    (sym (flat_map-append f front rest) ∙ ap (λ (js : List TracedJob). pieces_in c.args.judging t.namespace t.reads js) (take-append-drop number t.jobs))
