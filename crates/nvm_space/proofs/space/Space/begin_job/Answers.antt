use Rattle.std.proofs.Common.{ap, subst, sym, Bool, is_some}
use Rattle.nvm_geometry.specs.Namespace.{Namespace}
use Rattle.nvm_space.specs.Progress.{IsProgress}
use Rattle.nvm_space.specs.Spaces.{SpaceName}
use Rattle.nvm_space.proofs.space.Space.begin_job.Goals as goal

pub returns : goal.returns
returns g c = λ views.
    subst (λ (lists : Bool). IsProgress c.args.self.now.namespace lists c.args.number c.args.job.now views views c.begin.result) (sym c.recorded.ensures.lists)
    (subst (λ (ns : Namespace). IsProgress ns (is_some c.recorded.result) c.args.number c.args.job.now views views c.begin.result) (ap (λ (s : SpaceName). s.namespace) c.self.view_is)
    (c.begin.ensures views))
