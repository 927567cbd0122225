use Rattle.std.proofs.Common.{◌≡◌, ◌++◌, drop}
use Rattle.nvm_audit.specs.Inside.Gathered.{naming}
use Rattle.nvm_audit.specs.RecordedPart.{parts_of_work}
use Rattle.nvm_audit.proofs.gathering.gather_work.Given as goal

abbrev pub invariant-loop-k : goal.invariant-loop-k
invariant-loop-k l =
    l.parts.items ++ naming l.unit (parts_of_work l.worker (drop l.k l.work.items))
    ≡ l.initial.parts.items ++ naming l.unit (parts_of_work l.worker l.work.items)
