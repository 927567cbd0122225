-- What a reply to its next part makes of a job that is under way.
use Rattle.std.specs.Prelude.{◌≡◌, ℕ, ◌+◌, ◌<◌, Bool, if◌then◌else◌, List, [], ◌∷◌, ◌++◌, length, Some, None}
use Rattle.nvm_record.specs.declared.status.Statuses.{Statuses}
use Rattle.nvm_record.specs.Deeds.{success_of}
use Rattle.nvm_record.specs.Status.{IsSuccess}
use Rattle.nvm_record.specs.Step.{Operation}
use Rattle.nvm_geometry.specs.Boundaries.{unit_number}
use Rattle.nvm_geometry.specs.Large.{region_of}
use Rattle.nvm_geometry.specs.Namespace.{Namespace}
use Rattle.nvm_plan.specs.JobPart.{job_part_in, job_units_from}
use Rattle.nvm_plan.specs.Operation.{job_operation_of}
use Rattle.nvm_plan.specs.Outcome.{answered}
use Rattle.nvm_plan.specs.Reply.{Reply}
use Rattle.nvm_plan.specs.Shape.{IsForEach}
use Rattle.nvm_plan.specs.declared.job.Job.{Job}
use Rattle.nvm_plan.specs.declared.part.Part.{Part}
use Rattle.nvm_unit.specs.declared.views.PassView.{PassView}
use Rattle.nvm_space.specs.Inside.Parts.{IsGathered, job_ended, part_done, reply_told}
use Rattle.nvm_space.specs.Trace.{DoesJob, DoesPart}
use Rattle.nvm_space.specs.UnderWay.{UnderWay, IsUnderWay, next_unit, units_left}
use Rattle.nvm_space.specs.Visits.{BecomesAt}
use Rattle.nvm_space.specs.declared.job_done.JobDone.{JobDone}
use Rattle.nvm_space.specs.declared.replies.PartReply.{PartReply}
use Rattle.nvm_space.specs.declared.under_way.Progress.{Progress}
use Rattle.nvm_space.specs.declared.under_way.Progress.TheVariants.{Done, Pending}

-- The next part of the job was done, and this is the reply to it.
pub record RepliesTo (ns : Namespace) (lists : Bool) (job : Job) (w : UnderWay) (reply : Reply) (start now new : List PassView) : Type 0 where
  pub under_way : IsUnderWay ns lists job w start now
  pub part : Operation
  pub in_unit : job_part_in ns job (next_unit ns w) ≡ Some part
  pub at : reply.part.unit ≡ next_unit ns w
  pub step : BecomesAt (region_of ns (next_unit ns w)) (DoesPart (part_done w.number part reply)) now new

-- It was, and with its data gathered the part and its statuses are these.
abbrev pub HasReplied : Namespace → Bool → Job → UnderWay → PartReply → List PassView → List PassView → List PassView → List ℕ → Part → Statuses → Type 0
HasReplied ns lists job w r start now new bytes part statuses =
    RepliesTo ns lists job w (reply_told (next_unit ns w) r) start now new × IsGathered (next_unit ns w) r w.bytes bytes part statuses

-- the list of parts with one more, where they are listed
abbrev pub with_part : Bool → List Part → Part → List Part
with_part lists parts part = if lists then parts ++ part ∷ [] else parts

-- the job with one part more, that goes on in the unit of this LBA
abbrev pub gone_on : Bool → UnderWay → ℕ → Part → List ℕ → UnderWay
gone_on lists w next part bytes =
    record { number = w.number; lba = next; parts = with_part lists w.parts part; bytes = bytes; room = w.room }

-- What follows from that: a part that succeeded leaves the job under way at the next unit, or ends it where it was the
-- last. One that didn't ends it too. Its
-- statuses are then one for each command.
pub record Follows (ns : Namespace) (lists : Bool) (job : Job) (w : UnderWay) (start new : List PassView) (bytes : List ℕ) (part : Part)
    (statuses : Statuses) : Type 0 where
  pub more : (next : ℕ) → IsSuccess statuses → next < ns.nsze
      → job_units_from ns job (next_unit ns w + 1) ≡ unit_number ns next ∷ job_units_from ns job (unit_number ns next + 1)
      → IsUnderWay ns lists job (gone_on lists w next part bytes) start new
  pub last : (done : JobDone) → IsSuccess statuses → job_units_from ns job (next_unit ns w + 1) ≡ []
      → ((op : Operation) → job_operation_of ns job ≡ Some op
      → job_ended job (success_of op.deed) (answered op.deed bytes) (with_part lists w.parts part) done)
      → DoesJob ns lists w.number job start new done
  pub told : ¬ (IsSuccess statuses) → IsForEach job.body statuses
  pub stopped : (done : JobDone) → ¬ (IsSuccess statuses) → job_ended job statuses None (with_part lists w.parts part) done
      → DoesJob ns lists w.number job start new done

-- how many parts are left
abbrev pub left_of : Namespace → Job → Progress → ℕ
left_of ns job (Done done) = 0
left_of ns job (Pending w) = length (units_left ns job w)
