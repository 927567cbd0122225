-- What a part of a record shows of the part that a port did.
use Rattle.std.specs.Prelude.{◌≡◌, ℕ, List, Some}
use Rattle.nvm_geometry.specs.Namespace.{Namespace}
use Rattle.nvm_geometry.specs.Parts.{part_in}
use Rattle.nvm_plan.specs.declared.job.Job.{Job}
use Rattle.nvm_plan.specs.JobPart.{job_part_in}
use Rattle.nvm_plan.specs.Reply.{IsReplyTo}
use Rattle.nvm_record.specs.Lists.{IsAt}
use Rattle.nvm_record.specs.Step.{Operation}
use Rattle.nvm_space.specs.Trace.{PartDone}
use Rattle.nvm_audit.specs.RecordedPart.{RecordedPart, told_of}
use Rattle.nvm_audit.specs.Resting.{DoesOperation, data_in}

-- The recorded part is the part that was done: its job's part in its unit, by the job's operation, with what was answered for it; and
-- where the job's data is recorded, what it read is those bytes that are of its unit.
pub record Shows (ns : Namespace) (jobs : List Job) (p : RecordedPart) (did : PartDone) : Type 0 where
  pub job : Job
  pub its : IsAt jobs p.done.job job
  pub whole : Operation
  pub does : DoesOperation ns jobs p.done.job whole
  pub number : did.job ≡ p.done.job
  pub part : did.reply.part ≡ p.part
  pub in_unit : job_part_in ns job p.part.unit ≡ Some did.operation
  pub operation : did.operation ≡ part_in ns whole p.part.unit
  pub reply : IsReplyTo whole.deed did.reply
  pub told : did.reply.statuses ≡ told_of p
  pub read : (bytes : List ℕ) → p.done.payload ≡ Some bytes → did.reply.payload ≡ Some (data_in ns whole p.part.unit bytes)
