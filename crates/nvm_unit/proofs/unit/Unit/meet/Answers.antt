use Rattle.std.proofs.Common.{ap, sym, subst, length, false}
use Rattle.nvm_unit.specs.Inside.Parts.{seated}
use Rattle.nvm_unit.specs.Passes.{IsProperPass}
use Rattle.nvm_unit.specs.Views.{shown}
use Rattle.nvm_unit.proofs.OnePass.{proper_shown, whole}
use Rattle.nvm_unit.proofs.unit.Unit.meet.Goals as goal

pub invariant_of-one : goal.invariant_of-one
invariant_of-one g c =
    let p = seated c.one.inside.parts.token.seat.me in
    let met = c.meet-mine.ensures.met in
    let h = met.0 in
    whole _ (shown false (length h) h p) met.5 c.one.invariant.numbered met.1 (proper_shown false (length h) p h c.one.invariant.proper met.3)

pub invariant_of-other : goal.invariant_of-other
invariant_of-other g c =
    let p = seated c.other.inside.parts.token.seat.me in
    let met = c.meet-mine.ensures.met in
    let h = met.0 in
    whole _ (shown false (length h) h p) met.6 c.other.invariant.numbered met.2 (proper_shown false (length h) p h c.other.invariant.proper met.4)

pub returns-clause-one_proper : goal.returns-clause-one_proper
returns-clause-one_proper g c =
    let met = c.meet-mine.ensures.met in
    subst IsProperPass (sym (ap seated met.5)) (proper_shown false (length met.0) (seated c.one.inside.parts.token.seat.me) met.0 c.one.invariant.proper met.3)

pub returns-clause-other_proper : goal.returns-clause-other_proper
returns-clause-other_proper g c =
    let met = c.meet-mine.ensures.met in
    subst IsProperPass (sym (ap seated met.6)) (proper_shown false (length met.0) (seated c.other.inside.parts.token.seat.me) met.0 c.other.invariant.proper met.4)
