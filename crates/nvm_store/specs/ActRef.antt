-- Which operation an act with lent data stands for.
use Rattle.nvm_record.specs.PayloadRef.{lent_bytes}
use Rattle.nvm_record.specs.Ranges.{ranges_of}
use Rattle.nvm_record.specs.Step.{Operation}
use Rattle.nvm_store.specs.Operation.{write_operation, zeroes_operation, uncorrectable_operation, pair_operation, deallocate_operation}
use Rattle.nvm_store.specs.declared.act_ref.ActRef.{ActRef}
use Rattle.nvm_store.specs.declared.act_ref.ActRef.TheVariants.{Write, Zeroes, Uncorrectable, Pair, Deallocate}

-- the operation that the act stands for
abbrev pub lent_operation_of : ActRef → Operation
lent_operation_of (Write blocks first payload) = write_operation first blocks (lent_bytes payload)
lent_operation_of (Zeroes blocks first) = zeroes_operation first blocks
lent_operation_of (Uncorrectable blocks first) = uncorrectable_operation first blocks
lent_operation_of (Pair blocks first compare write) = pair_operation first blocks (lent_bytes compare) (lent_bytes write)
lent_operation_of (Deallocate blocks first ranges) = deallocate_operation first blocks (ranges_of (lent_bytes ranges))
