-- Which operation a look stands for.
use Rattle.nvm_record.specs.Step.{Operation}
use Rattle.nvm_store.specs.Operation.{read_operation, compare_operation}
use Rattle.nvm_store.specs.declared.look.Look.{Look}
use Rattle.nvm_store.specs.declared.look.Look.TheVariants.{Read, Compare}

-- the operation that the look stands for
abbrev pub look_operation_of : Look → Operation
look_operation_of (Read first blocks) = read_operation first blocks
look_operation_of (Compare first blocks payload) = compare_operation first blocks payload.now
