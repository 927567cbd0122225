use Rattle.nvm_audit.proofs.BeforeUnits.{shapes_before}
use Rattle.nvm_audit.proofs.laws.faults_of_units_come_after_shapes.Goals as goal

pub returns-clause-named : goal.returns-clause-named
returns-clause-named c = shapes_before

pub returns-clause-lawful : goal.returns-clause-lawful
returns-clause-lawful c r lawful = lawful.shapes
