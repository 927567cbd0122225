-- What a job does to the medium.
use Rattle.std.specs.Prelude.{◌+◌, if◌then◌else◌, List, [], Bool, Option, Some, None}
use Rattle.nvm_record.specs.declared.op.Op.{Op}
use Rattle.nvm_record.specs.declared.op.Op.TheVariants.{Write, Read, WriteUncorrectable, Compare, WriteZeroes, Dataset, Other}
use Rattle.nvm_record.specs.declared.command.Command.{Command}
use Rattle.nvm_record.specs.declared.lba_range.LbaRange.{LbaRange}
use Rattle.nvm_record.specs.Ranges.{ranges_of}
use Rattle.nvm_record.specs.Step.{Deed, Operation, writes, zeroes, uncorrectable, reads, compares, pairs}
use Rattle.nvm_geometry.specs.Namespace.{Namespace}
use Rattle.nvm_geometry.specs.Deallocation.{deallocation}
use Rattle.nvm_plan.specs.declared.job.Body.{Body}
use Rattle.nvm_plan.specs.declared.job.Body.TheVariants.{Single, Pair}
use Rattle.nvm_plan.specs.declared.job.Job.{Job}

-- the deed on the command's range, which has `nlb + 1` blocks
abbrev pub on_range : Command → Deed → Operation
on_range c deed = record { first = c.slba; blocks = c.nlb + 1; deed = deed }

-- what a Dataset Management does: with the Deallocate bit its ranges are deallocated, and without it none is
abbrev pub dataset_operation : Namespace → Bool → List LbaRange → Operation
dataset_operation ns deallocate ranges = deallocation ns (if deallocate then ranges else [])

-- what a command by itself does; one that isn't of the profile does nothing
abbrev pub single_operation : Namespace → Op → Command → Option Operation
single_operation ns Write c = Some (on_range c (writes c.payload))
single_operation ns Read c = Some (on_range c reads)
single_operation ns WriteUncorrectable c = Some (on_range c uncorrectable)
single_operation ns Compare c = Some (on_range c (compares c.payload))
single_operation ns WriteZeroes c = Some (on_range c zeroes)
single_operation ns (Dataset deallocate) c = Some (dataset_operation ns deallocate (ranges_of c.payload))
single_operation ns (Other opcode) c = None

-- what a fused pair does: Compare and Write, and no other
abbrev pub fused_operation : Op → Op → Command → Command → Option Operation
fused_operation Compare Write c d = Some (on_range c (pairs c.payload d.payload))
fused_operation _ _ c d = None

abbrev pub operation_of_body : Namespace → Body → Option Operation
operation_of_body ns (Single c) = single_operation ns c.op c
operation_of_body ns (Pair c d) = fused_operation c.op d.op c d

-- The operation that a job stands for. Each job that isn't refused has one.
abbrev pub job_operation_of : Namespace → Job → Option Operation
job_operation_of ns job = operation_of_body ns job.body
