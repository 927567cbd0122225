use Rattle.std.proofs.Common.{decimal, refl}
use Rattle.nvm_text.proofs.Taking.{within, then_front}
use Rattle.nvm_engine.specs.VerdictLine.{count_text}
use Rattle.nvm_engine.proofs.verdict_line.write_count.Goals as goal

pub returns-in_err-hand-clause-front : goal.returns-in_err-hand-clause-front
unfolding count_text
returns-in_err-hand-clause-front g c =
    within c.from_residual.result _ _ _ c.args.of.now (decimal c.args.count) refl c.in_err-hand.ensures.front

pub returns-clause-front : goal.returns-clause-front
unfolding count_text
returns-clause-front g c =
    then_front c.write_decimal.result _ _ _ _ c.args.of.now _ (decimal c.args.count) refl refl c.in_ok-hand.ensures.whole c.write_decimal.ensures.front
