use Rattle.nvm_audit.proofs.UnitByUnit.{IsCleanBelow}
use Rattle.nvm_audit.proofs.auditing_alone.first_in_units.Given as goal

-- Nothing is wrong in the units before.
abbrev pub invariant-loop-unit : goal.invariant-loop-unit
invariant-loop-unit l = IsCleanBelow l.fn.record l.unit
