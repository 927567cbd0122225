use Rattle.std.proofs.Common.{◌≡◌, ◌<◌, ◌≤◌, ℕ, List, length, map, subst, ap, arith, rules}
use Rattle.std.proofs.lemmas.Bool.{le-leb}
use Rattle.std.proofs.lemmas.List.{length-map}
use Rattle.nvm_record.specs.Lists.{IsAt}
use Rattle.nvm_audit.specs.RecordedJob.{RecordedJob}
use Rattle.nvm_trace.specs.Agreement.{AgreesWith}
use Rattle.nvm_trace.specs.Pieces.{Piece, piece}
use Rattle.nvm_trace.proofs.Places.{below, one_there, stands_read, at_map}
use Rattle.nvm_trace.proofs.replies.agrees_if_traced.Goals as goal

pub returns-then-number-len : goal.returns-then-number-len
returns-then-number-len c =
    let owners = c.args.owners.now.items in
    let pieces : List Piece = map (λ o. piece o.whole.now o.cut) owners in
    let long = length-map owners (λ o. piece o.whole.now o.cut) in
    let d = c.args.done.now in
    let number : c.done.inside.job ≡ d.job = ap (λ (e : RecordedJob). e.job) c.done.view_is in
    let high : length owners ≤ c.done.inside.job = search rules in (
      λ t p at. let low = below pieces d.job p at in absurd (omega (arith, low, high, number, long)),
      λ agrees. le-leb c.len.result c.done.inside.job (omega (arith, high, c.len.ensures)),
    )

pub returns-else-number-len : goal.returns-else-number-len
returns-else-number-len c =
    let owners = c.args.owners.now.items in
    let pieces : List Piece = map (λ o. piece o.whole.now o.cut) owners in
    let d = c.args.done.now in
    let number : c.done.inside.job ≡ d.job = ap (λ (e : RecordedJob). e.job) c.done.view_is in
    let low : c.done.inside.job < length owners = search rules in
    let its : Piece = piece c.index.result.now.whole.now c.index.result.now.cut in
    let there =
    subst (λ (n : ℕ). IsAt pieces n its) number
    (at_map (λ o. piece o.whole.now o.cut) owners c.done.inside.job c.index.result.now
    (stands_read owners c.done.inside.job c.index.result.now low c.index.ensures)) in (
      λ t p at. subst (λ (x : Piece). AgreesWith c.args.geometry.now x d) (one_there pieces d.job its p there at) (c.agrees.ensures.0 t),
      λ agrees. c.agrees.ensures.1 (agrees its there),
    )
