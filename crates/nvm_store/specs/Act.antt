-- Which operation an act stands for. The ranges of a Deallocate are taken as it holds them: it holds what a unit's history
-- keeps, which is cut already.
use Rattle.nvm_record.specs.Ranges.{ranges_of}
use Rattle.nvm_record.specs.Step.{Operation}
use Rattle.nvm_store.specs.Operation.{write_operation, zeroes_operation, uncorrectable_operation, pair_operation, ranges_operation}
use Rattle.nvm_store.specs.declared.act.Act.{Act}
use Rattle.nvm_store.specs.declared.act.Act.TheVariants.{Write, Zeroes, Uncorrectable, Pair, Deallocate}

-- the operation that the act stands for
abbrev pub operation_of : Act → Operation
operation_of (Write blocks first payload) = write_operation first blocks payload
operation_of (Zeroes blocks first) = zeroes_operation first blocks
operation_of (Uncorrectable blocks first) = uncorrectable_operation first blocks
operation_of (Pair blocks first compare write) = pair_operation first blocks compare write
operation_of (Deallocate blocks first ranges) = ranges_operation first blocks (ranges_of ranges)
