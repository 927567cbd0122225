-- Which operation a job's part with borrowed data stands for.
use Rattle.nvm_record.specs.Step.{Operation}
use Rattle.nvm_store.specs.ActRef.{lent_operation_of}
use Rattle.nvm_store.specs.Look.{look_operation_of}
use Rattle.nvm_plan.specs.declared.lent_part.LentPart.{LentPart}
use Rattle.nvm_plan.specs.declared.lent_part.LentPart.TheVariants.{Act, Look}

-- the operation that the part stands for
abbrev pub part_operation_of : LentPart → Operation
part_operation_of (Act act) = lent_operation_of act
part_operation_of (Look look) = look_operation_of look
