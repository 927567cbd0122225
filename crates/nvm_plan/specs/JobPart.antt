-- The units in which a job has a part, and what it does in each (own): a run does these parts, and a record of one is
-- judged by them.
use Rattle.std.specs.Prelude.{ℕ, nat_le, if◌then◌else◌, List, [], filter, Option, Some, None}
use Rattle.nvm_record.specs.declared.status.Statuses.{Statuses}
use Rattle.nvm_record.specs.Step.{Operation}
use Rattle.nvm_geometry.specs.Namespace.{Namespace}
use Rattle.nvm_geometry.specs.Parts.{meets, units_met, part_in}
use Rattle.nvm_plan.specs.declared.job.Job.{Job}
use Rattle.nvm_plan.specs.Checks.{refusal_of}
use Rattle.nvm_plan.specs.Operation.{job_operation_of}

-- nothing is done of what is refused
abbrev pub unless_refused : Option Statuses → Option Operation → Option Operation
unless_refused (Some statuses) operation = None
unless_refused None operation = operation

-- the operation of a job to which no check applies
abbrev pub ready_operation : Namespace → Job → Option Operation
ready_operation ns job = unless_refused (refusal_of ns job) (job_operation_of ns job)

abbrev pub units_of_ready : Namespace → Option Operation → List ℕ
units_of_ready ns None = []
units_of_ready ns (Some op) = units_met ns op

-- the units in which a job has a part, ascending
abbrev pub job_units : Namespace → Job → List ℕ
job_units ns job = units_of_ready ns (ready_operation ns job)

-- those of them from this one on
abbrev pub job_units_from : Namespace → Job → ℕ → List ℕ
job_units_from ns job from = filter (λ unit. nat_le from unit) (job_units ns job)

abbrev pub part_of_ready : Namespace → Option Operation → ℕ → Option Operation
part_of_ready ns None unit = None
part_of_ready ns (Some op) unit = if meets ns op unit then Some (part_in ns op unit) else None

-- A job's part in a unit: that of its operation, if no check applies to the job and its operation meets the unit.
abbrev pub job_part_in : Namespace → Job → ℕ → Option Operation
job_part_in ns job unit = part_of_ready ns (ready_operation ns job) unit
