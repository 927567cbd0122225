use Rattle.std.proofs.Common.{refl}
use Rattle.nvm_text.proofs.Taking.{then_front, within}
use Rattle.std.proofs.KnownBytes.{Appends-nil}
use Rattle.nvm_engine.specs.UnderLine.{named_text, number_text}
use Rattle.nvm_engine.proofs.under_line.write_under.Goals as goal

pub returns-in-Short-clause-whole : goal.returns-in-Short-clause-whole
returns-in-Short-clause-whole g c = rw c.in-Short.is (Appends-nil _)

pub returns-in_err-write_named-in-Long-clause-front : goal.returns-in_err-write_named-in-Long-clause-front
returns-in_err-write_named-in-Long-clause-front g c =
    let a = c.args in
    rw c.in-Long.is
    (within c.from_residual.result _ _ _ (named_text a.said.now a.status) (number_text a.status) refl c.in_err-write_named-in-Long.ensures.front)

pub returns-in_ok-write_named-in-Long-clause-front : goal.returns-in_ok-write_named-in-Long-clause-front
returns-in_ok-write_named-in-Long-clause-front g c =
    let a = c.args in
    rw c.in-Long.is
    (then_front c.write_number.result _ _ _ _ (named_text a.said.now a.status) _ (number_text a.status) refl refl
    c.in_ok-write_named-in-Long.ensures.whole c.write_number.ensures.front)
