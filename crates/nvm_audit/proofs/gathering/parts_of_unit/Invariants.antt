use Rattle.std.proofs.Common.{◌≡◌, ◌++◌, drop, map}
use Rattle.nvm_audit.specs.Inside.Gathered.{naming}
use Rattle.nvm_audit.specs.RecordedPart.{parts_of_workers, parts_in_unit}
use Rattle.nvm_audit.proofs.gathering.parts_of_unit.Given as goal

abbrev pub invariant-loop-worker : goal.invariant-loop-worker
invariant-loop-worker l =
    l.parts.items ++ naming l.unit (parts_of_workers l.worker (drop l.worker (map (λ work. work.items) l.done.items)))
    ≡ parts_in_unit l.unit (map (λ work. work.items) l.done.items)
