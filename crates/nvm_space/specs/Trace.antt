-- What a port does for a job: a step of its pass for each part, and what is reported about them (own).
use Rattle.std.specs.Prelude.{◌≡◌, ◌⊎◌, ℕ, Bool, if◌then◌else◌, List, [], ◌∷◌, map, Option, Some, None, Ok, Err, Result}
use Rattle.std.specs.List.{AllByRecursion}
use Rattle.nvm_record.specs.declared.status.Statuses.{Statuses}
use Rattle.nvm_record.specs.Deeds.{IsAct, IsLook, success_of}
use Rattle.nvm_record.specs.Step.{Deed, Operation}
use Rattle.nvm_geometry.specs.Large.{region_of}
use Rattle.nvm_geometry.specs.Namespace.{Namespace}
use Rattle.nvm_store.specs.Answer.{told_by, read_by}
use Rattle.nvm_plan.specs.declared.job.Job.{Job}
use Rattle.nvm_plan.specs.declared.part.Part.{Part}
use Rattle.nvm_plan.specs.declared.part.PartResult.{PartResult}
use Rattle.nvm_plan.specs.declared.part.PartResult.TheVariants as result
use Rattle.nvm_plan.specs.Completions.{completions_of}
use Rattle.nvm_plan.specs.JobPart.{job_part_in}
use Rattle.nvm_plan.specs.Outcome.{IsOutcome}
use Rattle.nvm_plan.specs.Reply.{Reply, reply_of_stop}
use Rattle.nvm_unit.specs.declared.replies.Changed.{Changed}
use Rattle.nvm_unit.specs.declared.replies.Changed.TheVariants.{Done, Failed, NoMemory, Full}
use Rattle.nvm_unit.specs.declared.replies.Observed.{Observed}
use Rattle.nvm_unit.specs.declared.replies.ObserveFault.{ObserveFault}
use Rattle.nvm_unit.specs.declared.replies.ObserveFault.TheVariants as observe_fault
use Rattle.nvm_unit.specs.declared.views.PassView.{PassView}
use Rattle.nvm_unit.specs.Replies.{Makes, Observes}
use Rattle.nvm_space.specs.Visits.{BecomesAt}
use Rattle.nvm_space.specs.declared.job_done.JobDone.{JobDone}

-- the part of a unit that ended so, at this point
abbrev pub part_ended : ℕ → ℕ → PartResult → Part
part_ended unit point ended = record { unit = unit; point = point; result = ended }

-- what is reported about a change of the deed in the unit
abbrev pub reply_of_change : ℕ → Deed → Changed → Reply
reply_of_change unit deed (Done point) =
    record { part = part_ended unit point result.Done; statuses = success_of deed; payload = None }
reply_of_change unit deed (Failed point statuses) =
    record { part = part_ended unit point result.Failed; statuses = statuses; payload = None }
reply_of_change unit deed (NoMemory point) = reply_of_stop deed (part_ended unit point result.NoMemory)
reply_of_change unit deed (Full point) = reply_of_stop deed (part_ended unit point result.Full)

-- what is reported about a look of the deed in the unit
abbrev pub reply_of_look : ℕ → Deed → Result Observed ObserveFault → Reply
reply_of_look unit deed (Ok observed) =
    record {
      part = part_ended unit observed.point result.Looked;
      statuses = told_by observed.answer;
      payload = read_by observed.answer;
    }
reply_of_look unit deed (Err (observe_fault.NoMemory point)) =
    reply_of_stop deed (part_ended unit point result.NoMemory)

-- a part that was done: the number of its job, what was done, and what was reported about it
pub record PartDone : Type 0 where
  pub job : ℕ
  pub operation : Operation
  pub reply : Reply

-- The part is one change or one look of the pass, and that is what was reported about it.
abbrev pub DoesPart : PartDone → PassView → PassView → Type 0
DoesPart did p q =
    (IsAct did.operation.deed × (changed : Changed) × Makes changed p did.job did.operation q
    × (did.reply ≡ reply_of_change did.reply.part.unit did.operation.deed changed))
    ⊎ (IsLook did.operation.deed × (answer : Result Observed ObserveFault) × Observes answer p did.operation q
    × (did.reply ≡ reply_of_look did.reply.part.unit did.operation.deed answer))

-- The parts were done one after the other, each by the pass of its unit's region.
abbrev pub DoesParts : (ℕ → ℕ) → List PartDone → List PassView → List PassView → Type 0
DoesParts region [] old new = new ≡ old
DoesParts region (did ∷ rest) old new =
    (between : List PassView) × BecomesAt (region did.reply.part.unit) (DoesPart did) old between × DoesParts region rest between new

-- It is the job's part in its unit.
abbrev pub IsPartOfJob : Namespace → ℕ → Job → PartDone → Type 0
IsPartOfJob ns number job did = (did.job ≡ number) × (job_part_in ns job did.reply.part.unit ≡ Some did.operation)

-- the parts that are listed: all of them, or none
abbrev pub listed_of : Bool → List PartDone → List Part
listed_of lists parts = if lists then map (λ did. did.reply.part) parts else []

-- The job of this number was done: parts of it, one after the other, whose replies have this outcome. They are all
-- listed where `lists` says so, else none is.
pub record DoesJob (ns : Namespace) (lists : Bool) (number : ℕ) (job : Job) (old new : List PassView) (done : JobDone) : Type 0 where
  pub parts : List PartDone
  pub does : DoesParts (region_of ns) parts old new
  pub each : AllByRecursion (IsPartOfJob ns number job) parts
  pub told : Statuses
  pub read : Option (List ℕ)
  pub outcome : IsOutcome ns job (map (λ did. did.reply) parts) told read
  pub completions : done.completions ≡ completions_of job told read
  pub listed : done.parts.items ≡ listed_of lists parts
