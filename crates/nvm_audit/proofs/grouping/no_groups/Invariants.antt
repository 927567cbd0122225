use Rattle.std.proofs.Common.{[], map}
use Rattle.nvm_audit.specs.Inside.Grouped.{AreGrouped}
use Rattle.nvm_audit.proofs.grouping.no_groups.Given as goal

abbrev pub invariant-loop-unit : goal.invariant-loop-unit
invariant-loop-unit l = AreGrouped l._unit [] (map (λ group. group.items) l.groups.items)
