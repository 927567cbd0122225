use Rattle.std.proofs.Common.{◌++◌, codes, refl}
use Rattle.nvm_text.proofs.Taking.{behind, first_of, on_err, on_err_then, within}
use Rattle.nvm_engine.specs.VerdictLine.{place_text}
use Rattle.nvm_engine.proofs.verdict_line.write_fault.Goals as goal

pub returns-in_err-hand-clause-front : goal.returns-in_err-hand-clause-front
returns-in_err-hand-clause-front g c =
    let place = place_text c.args.job c.args.spot in
    within c.from_residual.result _ _ _ (codes "unlawful ") (c.args.name.now ++ place) refl c.in_err-hand.ensures.front

pub returns-in_err-hand-2-clause-front : goal.returns-in_err-hand-2-clause-front
returns-in_err-hand-2-clause-front g c =
    let place = place_text c.args.job c.args.spot in
    on_err c.from_residual-in_err-hand-2.result
    (behind _ _ _ _ (codes "unlawful ") (c.args.name.now ++ place) refl c.in_ok-hand.ensures.whole
    (first_of _ _ _ c.args.name.now place refl c.in_err-hand-2.ensures.front))

pub returns-clause-front : goal.returns-clause-front
returns-clause-front g c =
    let place = place_text c.args.job c.args.spot in
    on_err_then c.write_place.result (λ failed. behind _ _ _ _ (codes "unlawful ") (c.args.name.now ++ place) refl c.in_ok-hand.ensures.whole
    (behind _ _ _ _ c.args.name.now place refl c.in_ok-hand-2.ensures.whole failed)) c.write_place.ensures.front
