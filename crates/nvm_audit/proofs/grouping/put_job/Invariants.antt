use Rattle.std.proofs.Common.{◌≡◌, ℕ, ◌++◌, List, length, map, take}
use Rattle.nvm_audit.specs.Inside.Grouped.{AreGrouped}
use Rattle.nvm_audit.specs.RecordedPart.{RecordedPart, parts_left}
use Rattle.nvm_audit.proofs.grouping.put_job.Given as goal

abbrev pub invariant-loop-i : goal.invariant-loop-i
invariant-loop-i l = record {
  long : length l.groups.items ≡ length l.initial.groups.items;
  grouped : (units : ℕ) (parts : List RecordedPart) → AreGrouped units parts (map (λ group. group.items) l.initial.groups.items)
      → AreGrouped units (parts ++ take l.i (parts_left l.worker l.done l.done.parts)) (map (λ group. group.items) l.groups.items);
}
