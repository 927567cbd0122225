use Rattle.std.proofs.Common.{ap, codes}
use Rattle.nvm_text.proofs.Taking.{within, then_front}
use Rattle.nvm_engine.specs.VerdictLine.{count_text}
use Rattle.nvm_engine.proofs.verdict_line.write_spot.Goals as goal

pub returns-in_err-write_count-clause-front : goal.returns-in_err-write_count-clause-front
returns-in_err-write_count-clause-front g c =
    let spot = c.in-Some.spot in
    rw c.in-Some.is (within c.from_residual.result _ _ _ (count_text (codes " unit ") spot.unit) (count_text (codes " place ") spot.place)
    (ap (count_text (codes " unit ")) c.from.ensures) c.in_err-write_count.ensures.front)

pub returns-clause-front : goal.returns-clause-front
returns-clause-front g c =
    let spot = c.in-Some.spot in
    rw c.in-Some.is (then_front c.write_count-2.result _ _ _ _ (count_text (codes " unit ") spot.unit) _ (count_text (codes " place ") spot.place)
    (ap (count_text (codes " unit ")) c.from.ensures) (ap (count_text (codes " place ")) c.from-2.ensures) c.in_ok-write_count.ensures.whole c.write_count-2.ensures.front)
