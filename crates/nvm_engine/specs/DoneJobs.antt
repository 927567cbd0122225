-- What a worker did by its port (own): its done jobs as a record shows them, and what they made of what the port's passes had
-- seen.
use Rattle.std.specs.Prelude.{◌≡◌, List, [], ◌∷◌, map}
use Rattle.std.specs.List.{AllByRecursion}
use Rattle.nvm_record.specs.Lists.{IsAt}
use Rattle.nvm_geometry.specs.Namespace.{Namespace}
use Rattle.nvm_plan.specs.declared.job.Job.{Job}
use Rattle.nvm_plan.specs.Outcome.{IsOutcome}
use Rattle.nvm_unit.specs.declared.views.PassView.{PassView}
use Rattle.nvm_space.specs.Trace.{PartDone, DoesParts, IsPartOfJob}
use Rattle.nvm_audit.specs.RecordedJob.{RecordedJob}

-- The job was done: parts of it, one after the other, whose replies have the outcome that is recorded of it.
pub record HasDoneJob (ns : Namespace) (jobs : List Job) (d : RecordedJob) (old new : List PassView) : Type 0 where
  pub job : Job
  pub its : IsAt jobs d.job job
  pub parts : List PartDone
  pub does : DoesParts (λ unit. unit) parts old new
  pub each : AllByRecursion (IsPartOfJob ns d.job job) parts
  pub outcome : IsOutcome ns job (map (λ did. did.reply) parts) d.statuses d.payload
  pub listed : d.parts ≡ map (λ did. did.reply.part) parts

-- These jobs were done, one after the other.
abbrev pub HaveDone : Namespace → List Job → List RecordedJob → List PassView → List PassView → Type 0
HaveDone ns jobs [] old new = new ≡ old
HaveDone ns jobs (d ∷ work) old new =
    (between : List PassView) × HasDoneJob ns jobs d old between × HaveDone ns jobs work between new
