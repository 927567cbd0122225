use Rattle.std.proofs.Common.{◌∙◌, subst}
use Rattle.std.proofs.lemmas.Result.{IfOk-weaker}
use Rattle.nvm_c.specs.Recorded.{HasWorked}
use Rattle.nvm_c.specs.declared.engine.Engine.{Engine}
use Rattle.nvm_c.proofs.work.port_work.Goals as goal

pub returns-clause-work : goal.returns-clause-work
returns-clause-work c =
    IfOk-weaker c.work-work.result _ _ (λ w did. (
      c.in-Some.engine.value,
      c.in-Some.ensures.some,
      subst (λ (e : Engine). HasWorked c.args.head.now.geometry c.args.head.now.limit c.args.place e w.0.items w.1.items) (c.deref.ensures ∙ c.share_reads.ensures ∙ c.deref_mut.ensures.value) did,
    )) c.work-work.ensures.work
