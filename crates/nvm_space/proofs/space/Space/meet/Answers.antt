use Rattle.std.proofs.Common.{◌≡◌, List, ap, sym, subst, ◌∙◌}
use Rattle.nvm_unit.specs.Ends.{views_of}
use Rattle.nvm_unit.specs.Passes.{UnitName}
use Rattle.nvm_space.specs.Ports.{PortState, ArePassesOfAll}
use Rattle.nvm_space.specs.Spaces.{SpaceName}
use Rattle.nvm_space.specs.Visits.{MeetInEach}
use Rattle.nvm_space.proofs.space.Space.meet.Goals as goal

pub meet_in_each-requires-clause-one : goal.meet_in_each-requires-clause-one
meet_in_each-requires-clause-one g c =
    let units : c.deref.result.now ≡ c.args.self.now.units = c.deref.ensures.value ∙ ap (λ (s : SpaceName). s.units) c.self.view_is in (
      c.one.inside.number,
      subst (λ (us : List UnitName). ArePassesOfAll us c.one.inside.number c.one.inside.passes.items) (sym units)
          (subst (λ (p : PortState). ArePassesOfAll c.args.self.now.units p.number p.passes) (sym c.one.view_is) c.requires.one),
    )

pub meet_in_each-requires-clause-other : goal.meet_in_each-requires-clause-other
meet_in_each-requires-clause-other g c =
    let units : c.deref.result.now ≡ c.args.self.now.units = c.deref.ensures.value ∙ ap (λ (s : SpaceName). s.units) c.self.view_is in (
      c.other.inside.number,
      subst (λ (us : List UnitName). ArePassesOfAll us c.other.inside.number c.other.inside.passes.items) (sym units)
          (subst (λ (p : PortState). ArePassesOfAll c.args.self.now.units p.number p.passes) (sym c.other.view_is) c.requires.other),
    )

pub returns-clause-one : goal.returns-clause-one
returns-clause-one g c =
    let units : c.deref.result.now ≡ c.args.self.now.units = c.deref.ensures.value ∙ ap (λ (s : SpaceName). s.units) c.self.view_is in
    subst (λ (us : List UnitName). ArePassesOfAll us c.one.inside.number c.meet_in_each.new.one.items) units
    (c.meet_in_each.ensures.one c.one.inside.number (subst (λ (us : List UnitName). ArePassesOfAll us c.one.inside.number c.one.inside.passes.items) (sym units)
    (subst (λ (p : PortState). ArePassesOfAll c.args.self.now.units p.number p.passes) (sym c.one.view_is) c.requires.one)))

pub returns-clause-other : goal.returns-clause-other
returns-clause-other g c =
    let units : c.deref.result.now ≡ c.args.self.now.units = c.deref.ensures.value ∙ ap (λ (s : SpaceName). s.units) c.self.view_is in
    subst (λ (us : List UnitName). ArePassesOfAll us c.other.inside.number c.meet_in_each.new.other.items) units
    (c.meet_in_each.ensures.other c.other.inside.number (subst (λ (us : List UnitName). ArePassesOfAll us c.other.inside.number c.other.inside.passes.items) (sym units)
    (subst (λ (p : PortState). ArePassesOfAll c.args.self.now.units p.number p.passes) (sym c.other.view_is) c.requires.other)))

pub returns-clause-met : goal.returns-clause-met
returns-clause-met g c =
    subst (λ (p : PortState). MeetInEach (views_of p.passes) (views_of c.args.other.now.passes) (views_of c.meet_in_each.new.one.items) (views_of c.meet_in_each.new.other.items)) c.one.view_is
    (subst (λ (o : PortState). MeetInEach (views_of c.one.inside.passes.items) (views_of o.passes) (views_of c.meet_in_each.new.one.items) (views_of c.meet_in_each.new.other.items)) c.other.view_is c.meet_in_each.ensures.met)
