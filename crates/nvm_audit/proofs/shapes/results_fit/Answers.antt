use Rattle.std.proofs.Common.{sym, ◌∙◌, refl}
use mathlib.Core.Bool.{true≢false}
use Rattle.nvm_audit.proofs.Fronts.{keeps_one_more, fails_here, kept_to_end}
use Rattle.nvm_audit.proofs.shapes.results_fit.Goals as goal

pub loop-part-init : goal.loop-part-init
loop-part-init c = λ deed kind. (λ all. all, λ all. all)

pub loop-part-preserved : goal.loop-part-preserved
loop-part-preserved c = λ deed kind.
    keeps_one_more _ c.args.parts.now c.loop-part.part-index _ c.loop-part-test.true (c.loop-part.invariant deed kind)
    (sym (c.can_have.ensures deed kind) ∙ c.if-not-can_have.false)

pub returns-then-not-can_have : goal.returns-then-not-can_have
returns-then-not-can_have c = λ deed kind. (
  λ e. absurd (true≢false (sym e)),
  λ all.
      absurd (fails_here _ c.args.parts.now c.loop-part.part-index _ c.loop-part-test.true (c.loop-part.invariant deed kind)
      (λ may. true≢false (sym may ∙ sym (c.can_have.ensures deed kind) ∙ c.if-not-can_have.true)) all),
)

pub returns : goal.returns
returns c = λ deed kind. (
  λ e. kept_to_end _ c.args.parts.now c.loop-part.part-index c.loop-part-test.false (c.loop-part.invariant deed kind),
  λ all. refl,
)
