use Rattle.std.proofs.Common.{◌≡◌, ◌+◌, ℕ, List, ◌∷◌, false, sym, ap, ◌∙◌, subst, inl}
use Rattle.std.proofs.lemmas.Result.{err_from_is_err_and}
use Rattle.nvm_list.specs.Rest.{parts_left}
use Rattle.nvm_list.specs.Words.{is, words_in}
use Rattle.nvm_trace_text.specs.Head.{is_end}
use Rattle.nvm_trace_text.specs.Texts.{uncommented, IsHeadFault}
use Rattle.nvm_trace_text.proofs.HeadFaults.{head_fails}
use Rattle.nvm_trace_text.proofs.reading.trace_of_text.Goals as goal

pub returns-in_err-under_head-clause-fault : goal.returns-in_err-under_head-clause-fault
returns-in_err-under_head-clause-fault c =
    let line = c.loop-rest.line + 1 in
    let here = c.cut.result.0.now in
    let behind = parts_left (is 10) c.cut.result.1 in
    let cut : parts_left (is 10) c.loop-rest.rest ≡ here ∷ behind = ap (parts_left (is 10)) c.in-Some.is ∙ c.cut.ensures.parts in
    let same : c.without_comment-words.result.now ≡ uncommented here = c.without_comment-words.ensures in
    let some : is_end (words_in (uncommented here)) ≡ false = ap (λ (w : List ℕ). is_end (words_in w)) (sym same) ∙ sym c.is_end.ensures ∙ c.if-not-is_end.true in
    let fault = c.in_err-under_head.field-0.0 in
    let wrong : IsHeadFault line (words_in (uncommented here)) fault = subst (λ (w : List ℕ). IsHeadFault line (words_in w) fault) same c.in_err-under_head.ensures.fault in
    let p = err_from_is_err_and c.from_residual.result c.from_residual.ensures.1 in
    rw (p.1, p.2) (inl (c.loop-rest.invariant.fails fault (head_fails line here behind (parts_left (is 10) c.loop-rest.rest) fault cut some wrong)))
