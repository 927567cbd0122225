use Rattle.std.proofs.Common.{◌⊎◌, Contains, inl, inr, refl, subst, sym}
use Rattle.nvm_standard.specs.PointView.{seen_table}
use Rattle.nvm_standard.specs.Inside.Noted.{noted}
use Rattle.nvm_standard.specs.Standing.{IsThereBy}
use Rattle.nvm_standard.specs.declared.fact.Fact.{Fact}
use Rattle.nvm_standard.specs.declared.node.Node.{Node}
use Rattle.nvm_standard.proofs.Pushed.{pushed}
use Rattle.nvm_standard.proofs.noting.note_there.Goals as goal

pub returns-in_ok-push-in-Own-clause-there : goal.returns-in_ok-push-in-Own-clause-there
returns-in_ok-push-in-Own-clause-there c =
    let t = seen_table c.args.points.now in
    let known = c.args.known.now in
    let old = known.there.items in
    pushed (λ (a : Node). Contains old a ⊎ IsThereBy t (noted t known) c.args.fact a) old c.push-then-is_followed.new.self.items
    c.node_before.result (λ a has. inl has) c.in_ok-push-in-Own.ensures.items
    (inr
    (subst (λ (f : Fact). IsThereBy t (noted t known) f c.node_before.result) (sym c.in-Own.is)
    (c.node_before.ensures, c.if-is_followed.ensures refl)))
