use Rattle.std.proofs.Common.{◌++◌, ap, codes, refl}
use Rattle.nvm_text.proofs.Taking.{behind, first_of, on_err, on_err_then, within}
use Rattle.nvm_engine.specs.VerdictLine.{count_text, spot_text}
use Rattle.nvm_engine.proofs.verdict_line.write_place.Goals as goal

pub returns-in_err-write_count-clause-front : goal.returns-in_err-write_count-clause-front
returns-in_err-write_count-clause-front g c =
    let job = count_text (codes " job ") c.args.job in
    let spot = spot_text c.args.spot in
    within c.from_residual.result _ _ _ job (spot ++ codes "\n") (ap (count_text (codes " job ")) c.from.ensures) c.in_err-write_count.ensures.front

pub returns-in_err-write_spot-clause-front : goal.returns-in_err-write_spot-clause-front
returns-in_err-write_spot-clause-front g c =
    let job = count_text (codes " job ") c.args.job in
    let spot = spot_text c.args.spot in
    on_err c.from_residual-in_err-write_spot.result
    (behind _ _ _ _ job (spot ++ codes "\n") (ap (count_text (codes " job ")) c.from.ensures) c.in_ok-write_count.ensures.whole
    (first_of _ _ _ spot (codes "\n") refl c.in_err-write_spot.ensures.front))

pub returns-clause-front : goal.returns-clause-front
returns-clause-front g c =
    let job = count_text (codes " job ") c.args.job in
    let spot = spot_text c.args.spot in
    on_err_then c.hand.result (λ failed. behind _ _ _ _ job (spot ++ codes "\n") (ap (count_text (codes " job ")) c.from.ensures) c.in_ok-write_count.ensures.whole
    (behind _ _ _ _ spot (codes "\n") refl c.in_ok-write_spot.ensures.whole failed)) c.hand.ensures.front
