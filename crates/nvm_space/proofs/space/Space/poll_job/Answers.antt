use Rattle.std.proofs.Common.{◌≡◌, List, ap, sym, subst, ◌∙◌}
use Rattle.nvm_unit.specs.Passes.{UnitName}
use Rattle.nvm_space.specs.Ports.{PortState, ArePassesOfAll}
use Rattle.nvm_space.specs.Spaces.{SpaceName}
use Rattle.nvm_space.proofs.space.Space.poll_job.Goals as goal

pub returns-clause-of : goal.returns-clause-of
returns-clause-of g c =
    let units : c.deref.result.now ≡ c.args.self.now.units = c.deref.ensures.value ∙ ap (λ (s : SpaceName). s.units) c.self.view_is in
    subst (λ (us : List UnitName). ArePassesOfAll us c.port.inside.number c.poll_job.new.passes.items) units
    (c.poll_job.ensures.passes c.port.inside.number (subst (λ (us : List UnitName). ArePassesOfAll us c.port.inside.number c.port.inside.passes.items) (sym units)
    (subst (λ (p : PortState). ArePassesOfAll c.args.self.now.units p.number p.passes) (sym c.port.view_is) c.requires.of)))
