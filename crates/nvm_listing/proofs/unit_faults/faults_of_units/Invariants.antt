use Rattle.nvm_listing.proofs.UnitByUnit.{AreFaultsBefore}
use Rattle.nvm_listing.proofs.unit_faults.faults_of_units.Given as goal

abbrev pub invariant-loop-unit : goal.invariant-loop-unit
invariant-loop-unit l = AreFaultsBefore l.fn.record l.unit l.faults.items
