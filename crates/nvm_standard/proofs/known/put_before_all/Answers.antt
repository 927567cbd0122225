use Rattle.std.proofs.Common.{◌<◌, List, Contains, length, get_or, ap, subst, sym, inl, inr, rules}
use Rattle.std.proofs.lemmas.List.Elements.{Contains-get_or}
use Rattle.nvm_standard.specs.declared.known.Order.{Order}
use Rattle.nvm_standard.specs.Nodes.{node}
use Rattle.nvm_standard.specs.declared.node.Node.{Node}
use Rattle.nvm_standard.proofs.known.put_before_all.Goals as goal

pub loop-later-preserved : goal.loop-later-preserved
loop-later-preserved c = λ o has.
    let items = c.deref-later-items.result.now in
    let i = c.loop-later.later-index in
    let low : i < length items = search rules in
    let there = subst (λ (xs : List Node). Contains xs (get_or items i (node 0 0))) c.deref-later-items.ensures.value
    (Contains-get_or items i (node 0 0) low) in
    elim (c.in_ok-put.ensures o has) [
      | inl old ↦ c.loop-later.invariant o old
      | inr is ↦ inr (
        ap (λ (q : Order). q.earlier) is,
        subst (λ (n : Node). Contains c.args.laters.now.items n) (sym (ap (λ (q : Order). q.later) is)) there,
      )
    ]
