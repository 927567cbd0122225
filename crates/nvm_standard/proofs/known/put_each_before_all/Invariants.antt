use Rattle.std.proofs.Common.{◌⊎◌, Contains}
use Rattle.nvm_standard.specs.declared.known.Order.{Order}
use Rattle.nvm_standard.proofs.known.put_each_before_all.Given as goal

abbrev pub invariant-loop-earlier : goal.invariant-loop-earlier
invariant-loop-earlier l =
    (o : Order) → Contains l.orders.items o
    → Contains l.fn.orders.items o ⊎ (Contains l.earliers.items o.earlier × Contains l.laters.items o.later)
