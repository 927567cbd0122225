-- What the units answered for the parts of a done job, each at its part's point, and that the job's statuses and data are those that
-- follow (own).
use Rattle.std.specs.Prelude.{◌≡◌, ℕ, List, map, Some}
use Rattle.nvm_record.specs.Lists.{IsAt}
use Rattle.nvm_record.specs.Step.{Operation}
use Rattle.nvm_geometry.specs.Namespace.{Namespace}
use Rattle.nvm_plan.specs.declared.job.Job.{Job}
use Rattle.nvm_plan.specs.declared.part.Part.{Part}
use Rattle.nvm_plan.specs.declared.part.PartResult.{PartResult}
use Rattle.nvm_plan.specs.declared.part.PartResult.TheVariants.{Done, Failed, Looked, NoMemory, Full}
use Rattle.nvm_plan.specs.JobPart.{ready_operation}
use Rattle.nvm_plan.specs.Outcome.{IsOutcome}
use Rattle.nvm_plan.specs.Reply.{Reply, reply_on, reply_of_stop}
use Rattle.nvm_store.specs.HistoryEntry.{HistoryEntry}
use Rattle.nvm_store.specs.Point.{point}
use Rattle.nvm_audit.specs.RecordedJob.{RecordedJob}
use Rattle.nvm_audit.specs.RecordView.{RecordView}

-- The reply to a part of the operation that ended so: what the step gives at the part's point of its unit's history, and
-- without a step that memory was refused or the history was full.
abbrev pub reply_at : Namespace → Operation → List HistoryEntry → Part → PartResult → Reply
reply_at ns op history part Done = reply_on ns op (point ns.block_size history part.point) part
reply_at ns op history part Failed = reply_on ns op (point ns.block_size history part.point) part
reply_at ns op history part Looked = reply_on ns op (point ns.block_size history part.point) part
reply_at ns op history part NoMemory = reply_of_stop op.deed part
reply_at ns op history part Full = reply_of_stop op.deed part

-- It is the reply to a part of the job, at the part's point of the history that the record has of its unit.
pub record IsReplyAtPoint (r : RecordView) (job : Job) (reply : Reply) : Type 0 where
  pub op : Operation
  pub ready : ready_operation r.namespace job ≡ Some op
  pub history : List HistoryEntry
  pub there : IsAt r.units reply.part.unit history
  pub is : reply ≡ reply_at r.namespace op history reply.part reply.part.result

-- These are the replies to the parts of the done job, each at its point, and what is recorded of the job is its outcome.
pub record AreRepliesOf (r : RecordView) (d : RecordedJob) (replies : List Reply) : Type 0 where
  pub job : Job
  pub its : IsAt r.jobs d.job job
  pub parts : map (λ reply. reply.part) replies ≡ d.parts
  pub each : (i : ℕ) (reply : Reply) → IsAt replies i reply → IsReplyAtPoint r job reply
  pub outcome : IsOutcome r.namespace job replies d.statuses d.payload
