use Rattle.std.proofs.Common.{◌≡◌, ◌∙◌, ◌++◌, ◌+◌, ℕ, List, append-nil, ap, inr, refl, subst, sym}
use Rattle.nvm_geometry.specs.Namespace.{Namespace}
use Rattle.nvm_space.specs.Spaces.{SpaceName}
use Rattle.nvm_c.specs.Asked.{IsAsked}
use Rattle.nvm_c.specs.Engines.{namespace_of}
use Rattle.nvm_c.proofs.AtOnce.{no_items}
use Rattle.nvm_c.proofs.Steps.{submits_alone}
use Rattle.nvm_c.proofs.engine.Engine.submit_two.Goals as goal

pub returns-in-Ok-clause-submits : goal.returns-in-Ok-clause-submits
returns-in-Ok-clause-submits c =
    let e = c.args.self.now in
    let entries : List ℕ = c.args.entries.now in
    let sent : List ℕ = c.args.compared.now ++ c.args.written.now in
    let here : c.geometry.result ≡ namespace_of e = c.geometry.ensures ∙ ap (λ (s : SpaceName). s.namespace) c.deref.ensures in
    submits_alone c.begin.result e c.begin.new.self entries sent _ c.begin.new.data c.args.posted.now c.begin.new.posted refl (no_items c.begin.new.data c.begin.auto.data)
    (c.begin.ensures.submits entries sent (inr c.in-Ok.ensures.two)
    (subst (λ (l : List ℕ). IsAsked (namespace_of e).block_size (e.port.number + 1) entries l c.in-Ok.job) (sym (append-nil sent))
    (subst (λ (host : ℕ). IsAsked (namespace_of e).block_size host entries sent c.in-Ok.job) c.requires.host
    (subst (λ (ns : Namespace). IsAsked ns.block_size c.args.host entries sent c.in-Ok.job) here c.in-Ok.ensures.asked))))
