use Rattle.std.proofs.Common.{◌++◌, codes, refl}
use Rattle.nvm_text.proofs.Taking.{behind, both, first_of, on_err, on_err_then, on_ok_then, within}
use Rattle.nvm_engine.specs.UnderLine.{number_text}
use Rattle.nvm_engine.specs.StatusNames.{status_digits}
use Rattle.nvm_engine.proofs.under_line.write_number.Goals as goal

pub returns-in_err-hand-clause-front : goal.returns-in_err-hand-clause-front
unfolding number_text
returns-in_err-hand-clause-front g c =
    let digits = status_digits c.args.status in
    within c.from_residual.result _ _ _ (codes " (0x") (digits ++ codes ")\n") refl c.in_err-hand.ensures.front

pub returns-in_err-write_digits-clause-front : goal.returns-in_err-write_digits-clause-front
unfolding number_text
returns-in_err-write_digits-clause-front g c =
    let digits = status_digits c.args.status in
    on_err c.from_residual-in_err-write_digits.result
    (behind _ _ _ _ (codes " (0x") (digits ++ codes ")\n") refl c.in_ok-hand.ensures.whole
    (first_of _ _ _ digits (codes ")\n") refl c.in_err-write_digits.ensures.front))

pub returns-clause-whole : goal.returns-clause-whole
unfolding number_text
returns-clause-whole g c =
    let digits = status_digits c.args.status in
    on_ok_then c.hand-2.result (λ taken. both _ _ _ _ (codes " (0x") (digits ++ codes ")\n") refl c.in_ok-hand.ensures.whole
    (both _ _ _ _ digits (codes ")\n") refl c.in_ok-write_digits.ensures.whole taken)) c.hand-2.ensures.whole

pub returns-clause-front : goal.returns-clause-front
unfolding number_text
returns-clause-front g c =
    let digits = status_digits c.args.status in
    on_err_then c.hand-2.result (λ failed. behind _ _ _ _ (codes " (0x") (digits ++ codes ")\n") refl c.in_ok-hand.ensures.whole
    (behind _ _ _ _ digits (codes ")\n") refl c.in_ok-write_digits.ensures.whole failed)) c.hand-2.ensures.front
