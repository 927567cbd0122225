use Rattle.nvm_store.specs.ActRef.{lent_operation_of}
use Rattle.std.proofs.Common.{ap, subst}
use Rattle.nvm_unit.specs.declared.views.PassView.{PassView}
use Rattle.nvm_unit.specs.Inside.Parts.{seated}
use Rattle.nvm_unit.specs.Passes.{PassState}
use Rattle.nvm_unit.specs.Replies.{Makes}
use Rattle.nvm_unit.proofs.Later.{made_later}
use Rattle.nvm_unit.proofs.unit.Unit.change_if_free.Goals as goal

pub returns-clause-made : goal.returns-clause-made
returns-clause-made g c =
    let op = lent_operation_of c.args.act in
    let after = seated c.change_held.new.parts.token.seat.me in
    subst (λ (p : PassView). Makes c.change_held.result p c.args.job op after) (ap (λ (x : PassState). x.view) c.pass.view_is)
    (made_later (seated c.pass.inside.parts.token.seat.me) _ c.in_ok-take_if_free.ensures.waited c.change_held.result after c.args.job op c.change_held.ensures.made)
