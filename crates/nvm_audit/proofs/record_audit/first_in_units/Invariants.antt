use Rattle.nvm_audit.proofs.UnitByUnit.{IsCleanBelow}
use Rattle.nvm_audit.proofs.record_audit.first_in_units.Given as goal

-- Nothing is wrong in the units before.
abbrev pub invariant-loop-unit : goal.invariant-loop-unit
invariant-loop-unit g l = IsCleanBelow l.fn.record l.unit
