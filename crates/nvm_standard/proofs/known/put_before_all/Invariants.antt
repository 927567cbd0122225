use Rattle.std.proofs.Common.{◌≡◌, ◌⊎◌, Contains}
use Rattle.nvm_standard.specs.declared.known.Order.{Order}
use Rattle.nvm_standard.proofs.known.put_before_all.Given as goal

abbrev pub invariant-loop-later : goal.invariant-loop-later
invariant-loop-later l =
    (o : Order) → Contains l.orders.items o
    → Contains l.fn.orders.items o ⊎ ((o.earlier ≡ l.earlier) × Contains l.laters.items o.later)
