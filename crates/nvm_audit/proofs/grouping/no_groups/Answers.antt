use Rattle.std.proofs.Common.{◌+◌, [], map, sym, subst}
use Rattle.nvm_audit.specs.Inside.Grouped.{AreGrouped}
use Rattle.nvm_audit.proofs.Groups.{one_group_more}
use Rattle.nvm_audit.proofs.grouping.no_groups.Goals as goal

pub loop-unit-preserved : goal.loop-unit-preserved
loop-unit-preserved c =
    subst (λ gs. AreGrouped (c.loop-unit._unit + 1) [] (map (λ group. group.items) gs)) (sym c.in_ok-push.ensures.items)
    (one_group_more (λ group. group.items) c.loop-unit._unit c.loop-unit.groups.items c.new.result c.new.ensures.items c.loop-unit.invariant)
