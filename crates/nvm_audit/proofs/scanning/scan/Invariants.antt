use Rattle.nvm_audit.specs.Inside.Audited.{view_of_shown}
use Rattle.nvm_audit.specs.Inside.Scanned.{IsScannedTo}
use Rattle.nvm_audit.proofs.scanning.scan.Given as goal

abbrev pub invariant-loop-k : goal.invariant-loop-k
invariant-loop-k l = IsScannedTo (view_of_shown l.u) l.k l.least
