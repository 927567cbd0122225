use Rattle.std.proofs.Common.{take}
use Rattle.nvm_audit.specs.Inside.Audited.{AreByPoint}
use Rattle.nvm_audit.proofs.by_point.by_point.Given as goal

abbrev pub invariant-loop-k : goal.invariant-loop-k
invariant-loop-k l = AreByPoint l.entries (take l.k l.parts.items) l.last.items l.before.items
