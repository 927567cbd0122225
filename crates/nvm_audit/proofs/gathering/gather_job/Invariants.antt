use Rattle.std.proofs.Common.{◌≡◌, ◌++◌, drop}
use Rattle.nvm_audit.specs.Inside.Gathered.{naming}
use Rattle.nvm_audit.specs.RecordedPart.{parts_left}
use Rattle.nvm_audit.proofs.gathering.gather_job.Given as goal

abbrev pub invariant-loop-i : goal.invariant-loop-i
invariant-loop-i l =
    l.parts.items ++ naming l.unit (parts_left l.worker l.done (drop l.i l.done.parts))
    ≡ l.initial.parts.items ++ naming l.unit (parts_left l.worker l.done l.done.parts)
