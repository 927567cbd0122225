use Rattle.std.proofs.Common.{◌++◌, codes, refl}
use Rattle.nvm_text.proofs.Taking.{behind, both, first_of, on_err, on_err_then, on_ok_then, within}
use Rattle.nvm_engine.specs.UnderLine.{named_text}
use Rattle.nvm_engine.specs.StatusNames.{status_name}
use Rattle.nvm_engine.proofs.under_line.write_named.Goals as goal

pub returns-in_err-hand-clause-front : goal.returns-in_err-hand-clause-front
unfolding named_text
returns-in_err-hand-clause-front g c =
    let name = status_name c.args.status in
    within c.from_residual.result _ _ _ (codes "  ") (c.args.said.now ++ (codes ": " ++ name)) refl c.in_err-hand.ensures.front

pub returns-in_err-hand-2-clause-front : goal.returns-in_err-hand-2-clause-front
unfolding named_text
returns-in_err-hand-2-clause-front g c =
    let name = status_name c.args.status in
    on_err c.from_residual-in_err-hand-2.result
    (behind _ _ _ _ (codes "  ") (c.args.said.now ++ (codes ": " ++ name)) refl c.in_ok-hand.ensures.whole
    (first_of _ _ _ c.args.said.now (codes ": " ++ name) refl c.in_err-hand-2.ensures.front))

pub returns-in_err-hand-3-clause-front : goal.returns-in_err-hand-3-clause-front
unfolding named_text
returns-in_err-hand-3-clause-front g c =
    let name = status_name c.args.status in
    on_err c.from_residual-in_err-hand-3.result
    (behind _ _ _ _ (codes "  ") (c.args.said.now ++ (codes ": " ++ name)) refl c.in_ok-hand.ensures.whole
    (behind _ _ _ _ c.args.said.now (codes ": " ++ name) refl c.in_ok-hand-2.ensures.whole
    (first_of _ _ _ (codes ": ") name refl c.in_err-hand-3.ensures.front)))

pub returns-clause-whole : goal.returns-clause-whole
unfolding named_text
returns-clause-whole g c =
    let name = status_name c.args.status in
    on_ok_then c.hand-4.result
    (λ taken. both _ _ _ _ (codes "  ") (c.args.said.now ++ (codes ": " ++ name)) refl c.in_ok-hand.ensures.whole
    (both _ _ _ _ c.args.said.now (codes ": " ++ name) refl c.in_ok-hand-2.ensures.whole
    (both _ _ _ _ (codes ": ") name refl c.in_ok-hand-3.ensures.whole (rw (← c.status_name.ensures) taken)))) c.hand-4.ensures.whole

pub returns-clause-front : goal.returns-clause-front
unfolding named_text
returns-clause-front g c =
    let name = status_name c.args.status in
    on_err_then c.hand-4.result
    (λ failed. behind _ _ _ _ (codes "  ") (c.args.said.now ++ (codes ": " ++ name)) refl c.in_ok-hand.ensures.whole
    (behind _ _ _ _ c.args.said.now (codes ": " ++ name) refl c.in_ok-hand-2.ensures.whole
    (behind _ _ _ _ (codes ": ") name refl c.in_ok-hand-3.ensures.whole (rw (← c.status_name.ensures) failed)))) c.hand-4.ensures.front
