use Rattle.std.proofs.Common.{◌<◌, List, Contains, length, get_or, subst, sym, inl, inr, rules}
use Rattle.std.proofs.lemmas.List.Elements.{Contains-get_or}
use Rattle.nvm_standard.specs.declared.node.Node.{Node}
use Rattle.nvm_standard.specs.Nodes.{node}
use Rattle.nvm_standard.proofs.known.put_each_before_all.Goals as goal

pub loop-earlier-preserved : goal.loop-earlier-preserved
loop-earlier-preserved c = λ o has.
    let items = c.deref-earlier-items.result.now in
    let i = c.loop-earlier.earlier-index in
    let low : i < length items = search rules in
    let there = subst (λ (xs : List Node). Contains xs (get_or items i (node 0 0))) c.deref-earlier-items.ensures.value
    (Contains-get_or items i (node 0 0) low) in
    elim (c.in_ok-put_before_all.ensures o has) [
      | inl old ↦ c.loop-earlier.invariant o old
      | inr is ↦ inr (subst (λ (n : Node). Contains c.args.earliers.now.items n) (sym is.0) there, is.1)
    ]
