use Rattle.std.proofs.Common.{◌≡◌, ◌∙◌, ℕ, [], ap, inl, refl, subst}
use Rattle.nvm_geometry.specs.Namespace.{Namespace}
use Rattle.nvm_space.specs.Spaces.{SpaceName}
use Rattle.nvm_c.specs.Asked.{IsAsked}
use Rattle.nvm_c.specs.Engines.{namespace_of}
use Rattle.nvm_c.proofs.engine.Engine.submit_job.Goals as goal

pub returns-in-Ok-clause-submits : goal.returns-in-Ok-clause-submits
returns-in-Ok-clause-submits c =
    let e = c.args.self.now in
    let here : c.geometry.result ≡ namespace_of e = c.geometry.ensures ∙ ap (λ (s : SpaceName). s.namespace) c.deref.ensures in
    c.begin.ensures.submits c.args.entries.now [] (inl refl)
    (subst (λ (host : ℕ). IsAsked (namespace_of e).block_size host c.args.entries.now c.args.data.now c.in-Ok.job) c.requires.host
    (subst (λ (ns : Namespace). IsAsked ns.block_size c.args.host c.args.entries.now c.args.data.now c.in-Ok.job) here c.in-Ok.ensures.asked))
