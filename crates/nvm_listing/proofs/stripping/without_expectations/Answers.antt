use Rattle.std.proofs.Common.{◌++◌, ◌∷◌, [], List, ℕ, map, ap, ◌∙◌, sym}
use Rattle.std.specs.List.{join_with_byte}
use Rattle.nvm_listing.specs.Expectation.{front}
use Rattle.nvm_listing.proofs.ListLines.{line_taken}
use Rattle.nvm_listing.proofs.stripping.without_expectations.Goals as goal

pub loop-rest-preserved-in_ok-push : goal.loop-rest-preserved-in_ok-push
loop-rest-preserved-in_ok-push c =
    let old = c.loop-rest.text.items in
    let line = c.cut.result.0.now in
    let taken = c.in_ok-extend_from_slice.ensures.items ∙ ap (λ (text : List ℕ). old ++ text) c.front.ensures in
    let new = c.in_ok-push.ensures.items ∙ ap (λ (text : List ℕ). text ++ 10 ∷ []) taken in
    line_taken old line _ c.cut.result.1 (sym c.is_some.ensures ∙ c.if-is_some.true) new
    ∙ ap (λ (parts : List (List ℕ)). old ++ join_with_byte 10 (map front parts)) (sym c.cut.ensures.parts)
    ∙ rw c.in-Some.is at c.loop-rest.invariant
