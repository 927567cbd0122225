use Rattle.std.proofs.Common.{◌⊎◌, ◌∙◌, List, Contains, ap, subst, sym}
use Rattle.std.proofs.lemmas.Result.{on_ok_weaker}
use Rattle.nvm_standard.specs.PointView.{seen_table}
use Rattle.nvm_standard.specs.Inside.Noted.{IsNoted, IsNotedThere}
use Rattle.nvm_standard.specs.Standing.{IsAtFirst, IsBeforeWith, order_of}
use Rattle.nvm_standard.specs.declared.known.Order.{Order}
use Rattle.nvm_standard.specs.declared.node.Node.{Node}
use Rattle.nvm_standard.proofs.Deriving.{fact_noted}
use Rattle.nvm_standard.proofs.noting.note_fact.Goals as goal

pub returns : goal.returns
returns c =
    let t = seen_table c.args.points.now in
    let fact = c.args.fact in
    let old = c.args.known.now in
    let new = c.note_order.new.known in
    let order = c.note_order.ensures in
    let first = c.in_ok-note_first.ensures in
    let source = c.in_ok-note_there.ensures in
    on_ok_weaker c.note_order.result
    (λ orders.
    fact_noted t fact old new
    (λ a has. source.there a (subst (λ (nodes : List Node). Contains nodes a) (ap (λ v. v.items) (order.there ∙ first.there)) has))
    (λ a has. subst (λ (nodes : List Node). Contains nodes a ⊎ IsAtFirst fact a) (ap (λ v. v.items) source.firsts)
    (first.firsts a (subst (λ (nodes : List Node). Contains nodes a) (ap (λ v. v.items) order.firsts) has)))
    (λ x y noted.
    subst (λ (os : List Order). IsBeforeWith (IsNotedThere t new.there.items) (IsNoted os) (order_of t fact) x y)
    (ap (λ v. v.items) (first.orders ∙ source.orders))
    (subst (λ (nodes : List Node). IsBeforeWith (IsNotedThere t nodes) (IsNoted c.note_first.new.known.orders.items) (order_of t fact) x y)
    (sym (ap (λ v. v.items) order.there)) (orders x y noted)))) order.noted
