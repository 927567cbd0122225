-- What is known of a job that has an operation.
use Rattle.std.proofs.Common.{◌≡◌, Option, Some, None, refl}
use Rattle.std.proofs.lemmas.Option.{none-some}
use Rattle.nvm_record.specs.declared.status.Statuses.{Statuses}
use Rattle.nvm_record.specs.Step.{Operation}
use Rattle.nvm_geometry.specs.Namespace.{Namespace}
use Rattle.nvm_plan.specs.declared.job.Job.{Job}
use Rattle.nvm_plan.specs.Checks.{refusal_of}
use Rattle.nvm_plan.specs.JobPart.{unless_refused, ready_operation}
use Rattle.nvm_plan.specs.Operation.{job_operation_of}

by_refusal : (refusal : Option Statuses) (stands : Option Operation) (op : Operation) → unless_refused refusal stands ≡ Some op
    → (refusal ≡ None) × (stands ≡ Some op)
by_refusal None stands op e = (refl, e)
by_refusal (Some statuses) stands op e = absurd (none-some op e)

-- No check refuses it, and it stands for this operation.
pub unrefused : (ns : Namespace) (job : Job) (op : Operation) → ready_operation ns job ≡ Some op
    → (refusal_of ns job ≡ None) × (job_operation_of ns job ≡ Some op)
unrefused ns job op e = by_refusal (refusal_of ns job) (job_operation_of ns job) op e
