use Rattle.std.proofs.Common.{refl}
use Rattle.nvm_audit.proofs.Fronts.{left_one_less, other_unit, left_at_end}
use Rattle.nvm_audit.proofs.shapes.are_first.Goals as goal

pub loop-part-init : goal.loop-part-init
loop-part-init c = λ left. (λ e. e, λ e. e)

pub loop-part-preserved : goal.loop-part-preserved
loop-part-preserved c =
    left_one_less c.args.parts.now c.loop-part.part-index _ c.loop-part.units c.args.units.now c.loop-part-test.true
    c.loop-part.invariant c.in-Some.unit c.next.new.self c.in-Some.ensures.steps c.if-unit-part.false

pub returns-clause-first : goal.returns-clause-first
returns-clause-first c = λ yes. (left_at_end c.args.parts.now c.loop-part.part-index c.loop-part.units c.args.units.now c.loop-part-test.false
    c.loop-part.invariant c.loop-part.units).0 refl

pub returns-clause-left : goal.returns-clause-left
returns-clause-left c = λ left e. (
  refl,
  (left_at_end c.args.parts.now c.loop-part.part-index c.loop-part.units c.args.units.now c.loop-part-test.false
      c.loop-part.invariant left).1 e,
)

pub returns-then-unit-part-clause-left : goal.returns-then-unit-part-clause-left
returns-then-unit-part-clause-left c = λ left e.
    absurd (other_unit c.args.parts.now c.loop-part.part-index _ c.loop-part.units c.args.units.now c.loop-part-test.true
    c.loop-part.invariant c.in-Some.unit c.next.new.self c.in-Some.ensures.steps c.if-unit-part.true left e)
