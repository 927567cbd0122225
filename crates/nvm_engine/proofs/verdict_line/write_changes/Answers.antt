use Rattle.std.proofs.Common.{◌++◌, ap, codes, refl}
use Rattle.nvm_text.proofs.Taking.{behind, first_of, on_err, on_err_then, within}
use Rattle.nvm_engine.specs.VerdictLine.{changes_text, count_text}
use Rattle.nvm_engine.proofs.verdict_line.write_changes.Goals as goal

pub returns-in_err-write_count-clause-front : goal.returns-in_err-write_count-clause-front
unfolding changes_text
returns-in_err-write_count-clause-front g c =
    let changes = count_text (codes " changes ") c.args.verdict.changes in
    let refused = count_text (codes " refused ") c.args.verdict.refused in
    within c.from_residual.result _ _ _ changes (refused ++ codes "\n") refl c.in_err-write_count.ensures.front

pub returns-in_err-write_count-2-clause-front : goal.returns-in_err-write_count-2-clause-front
unfolding changes_text
returns-in_err-write_count-2-clause-front g c =
    let changes = count_text (codes " changes ") c.args.verdict.changes in
    let refused = count_text (codes " refused ") c.args.verdict.refused in
    on_err c.from_residual-in_err-write_count-2.result
    (behind _ _ _ _ changes (refused ++ codes "\n") refl c.in_ok-write_count.ensures.whole
    (first_of _ _ _ refused (codes "\n") (ap (count_text (codes " refused ")) c.from.ensures) c.in_err-write_count-2.ensures.front))

pub returns-clause-front : goal.returns-clause-front
unfolding changes_text
returns-clause-front g c =
    let changes = count_text (codes " changes ") c.args.verdict.changes in
    let refused = count_text (codes " refused ") c.args.verdict.refused in
    on_err_then c.hand.result (λ failed. behind _ _ _ _ changes (refused ++ codes "\n") refl c.in_ok-write_count.ensures.whole
    (behind _ _ _ _ refused (codes "\n") (ap (count_text (codes " refused ")) c.from.ensures) c.in_ok-write_count-2.ensures.whole failed)) c.hand.ensures.front
