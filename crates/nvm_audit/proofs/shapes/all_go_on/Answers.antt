use Rattle.std.proofs.Common.{sym, ◌∙◌, refl}
use mathlib.Core.Bool.{true≢false}
use Rattle.nvm_audit.proofs.Fronts.{keeps_one_more, fails_here, kept_to_end}
use Rattle.nvm_audit.proofs.shapes.all_go_on.Goals as goal

pub loop-part-init : goal.loop-part-init
loop-part-init c = (λ all. all, λ all. all)

pub loop-part-preserved : goal.loop-part-preserved
loop-part-preserved c =
    keeps_one_more _ c.args.parts.now c.loop-part.part-index _ c.loop-part-test.true c.loop-part.invariant
    (sym c.goes_on.ensures ∙ c.if-not-goes_on.false)

pub returns-then-not-goes_on : goal.returns-then-not-goes_on
returns-then-not-goes_on c = (
  λ e. absurd (true≢false (sym e)),
  λ all.
      absurd (fails_here _ c.args.parts.now c.loop-part.part-index _ c.loop-part-test.true c.loop-part.invariant
      (λ goes. true≢false (sym goes ∙ sym c.goes_on.ensures ∙ c.if-not-goes_on.true)) all),
)

pub returns : goal.returns
returns c = (λ e. kept_to_end _ c.args.parts.now c.loop-part.part-index c.loop-part-test.false c.loop-part.invariant, λ all. refl)
