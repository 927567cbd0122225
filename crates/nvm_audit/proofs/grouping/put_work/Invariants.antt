use Rattle.std.proofs.Common.{◌≡◌, ℕ, ◌++◌, List, length, map, take}
use Rattle.nvm_audit.specs.Inside.Grouped.{AreGrouped}
use Rattle.nvm_audit.specs.RecordedPart.{RecordedPart, parts_of_work}
use Rattle.nvm_audit.proofs.grouping.put_work.Given as goal

abbrev pub invariant-loop-k : goal.invariant-loop-k
invariant-loop-k l = record {
  long : length l.groups.items ≡ length l.initial.groups.items;
  grouped : (units : ℕ) (parts : List RecordedPart) → AreGrouped units parts (map (λ group. group.items) l.initial.groups.items)
      → AreGrouped units (parts ++ parts_of_work l.worker (take l.k l.work.items)) (map (λ group. group.items) l.groups.items);
}
