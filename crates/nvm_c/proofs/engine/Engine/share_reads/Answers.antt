use Rattle.std.proofs.Common.{◌≡◌, ◌∙◌, Option, Some, ap, sym}
use Rattle.std_alloc.specs.Vec.{with_items}
use Rattle.nvm_c.specs.declared.log.Log.{Log}
use Rattle.nvm_c.proofs.Vecs.{with_own_items}
use Rattle.nvm_c.proofs.engine.Engine.share_reads.Goals as goal

pub returns-in-Some : goal.returns-in-Some
returns-in-Some c =
    let log = c.in-Some.log in
    ap (λ d. record c.args.self.now { log = Some (record log { done = d }) })
    (with_own_items log.done c.share_reads.new.done (c.share_reads.ensures ∙ c.deref_mut.ensures.value))
    ∙ ap (λ (l : Option Log). record c.args.self.now { log = l }) (sym c.in-Some.is)
