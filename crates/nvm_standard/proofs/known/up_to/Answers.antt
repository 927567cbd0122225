use Rattle.std.proofs.Common.{◌≡◌, ◌<◌, ◌∙◌, List, Contains, length, get_or, ap, subst, refl, inr, rules}
use Rattle.std.proofs.lemmas.List.Elements.{Contains-get_or}
use Rattle.nvm_standard.specs.PointView.{seen_table}
use Rattle.nvm_standard.specs.Inside.Noted.{IsNoted, IsNotedThere}
use Rattle.nvm_standard.specs.Nodes.{node}
use Rattle.nvm_standard.specs.Standing.{IsUpTo, order}
use Rattle.nvm_standard.specs.declared.known.Order.{Order}
use Rattle.nvm_standard.specs.declared.node.Node.{Node}
use Rattle.nvm_standard.proofs.Pushed.{pushed}
use Rattle.nvm_standard.proofs.known.up_to.Goals as goal
use Rattle.nvm_standard.proofs.known.up_to.Goals.{then-eq+in_ok-push-2, else-eq}

pub loop-noted-preserved : goal.loop-noted-preserved
loop-noted-preserved c =
    let items = c.deref-noted-items.result.now in
    let known = c.args.known.now.orders.items in
    let i = c.loop-noted.noted-index in
    let low : i < length items = search rules in
    let o = get_or items i (order (node 0 0) (node 0 0)) in
    let has = subst (λ (xs : List Order). Contains xs o) c.deref-noted-items.ensures.value
    (Contains-get_or items i (order (node 0 0) (node 0 0)) low) in
    elim c.if-eq.branch [
      | then-eq+in_ok-push-2 w ↦
          let same : o.later ≡ c.args.node = search rules in
          pushed
          (λ (x : Node). IsUpTo (IsNotedThere (seen_table c.args.points.now) c.args.known.now.there.items) (IsNoted known) x c.args.node)
          c.loop-noted.nodes.items c.if-eq.nodes.items o.earlier c.loop-noted.invariant (ap (λ v. v.items) w.nodes-is ∙ w.in_ok-push-2.ensures.items)
          (inr (c.if-not-is_there.ensures refl, subst (λ (n : Node). Contains known (order o.earlier n)) same has))
      | else-eq w ↦ λ x h. c.loop-noted.invariant x (subst (λ nodes. Contains nodes.items x) w.nodes-is h)
    ]
