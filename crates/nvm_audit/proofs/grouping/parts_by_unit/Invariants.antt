use Rattle.std.proofs.Common.{map, take}
use Rattle.nvm_audit.specs.Inside.Grouped.{AreGrouped}
use Rattle.nvm_audit.specs.RecordedPart.{parts_of_workers}
use Rattle.nvm_audit.proofs.grouping.parts_by_unit.Given as goal

abbrev pub invariant-loop-worker : goal.invariant-loop-worker
invariant-loop-worker l =
    AreGrouped l.units (parts_of_workers 0 (take l.worker (map (λ work. work.items) l.done.items))) (map (λ group. group.items) l.groups.items)
