-- The parts of a job, and what is reported about them.
use Rattle.std.specs.Prelude.{◌≡◌, ◌⊎◌, ℕ, Bool, true, List, [], ◌++◌, length, Option, unwrap_or, IsSome}
use Rattle.nvm_record.specs.Lists.{IsAt}
use Rattle.nvm_record.specs.declared.status.Statuses.{Statuses}
use Rattle.nvm_record.specs.declared.status.Statuses.TheVariants.{One}
use Rattle.nvm_record.specs.Status.{internal_error}
use Rattle.nvm_record.specs.Step.{Operation}
use Rattle.nvm_geometry.specs.Boundaries.{units_of}
use Rattle.nvm_geometry.specs.Large.{regions_of}
use Rattle.nvm_geometry.specs.Namespace.{Namespace}
use Rattle.nvm_plan.specs.Completions.{completions_of}
use Rattle.nvm_plan.specs.declared.job.Job.{Job}
use Rattle.nvm_plan.specs.declared.part.Part.{Part}
use Rattle.nvm_plan.specs.declared.part.PartResult.TheVariants as result
use Rattle.nvm_plan.specs.Reply.{Reply}
use Rattle.nvm_plan.specs.UnitPlace.{IsUnitPlace}
use Rattle.nvm_store.specs.Limit.{IsLimit}
use Rattle.nvm_unit.specs.Passes.{UnitName}
use Rattle.nvm_space.specs.declared.job_done.JobDone.{JobDone}
use Rattle.nvm_space.specs.declared.replies.PartReply.{PartReply}
use Rattle.nvm_unit.specs.declared.views.PassView.{PassView}
use Rattle.nvm_space.specs.Trace.{DoesPart, PartDone, part_ended}

-- These are the regions of the namespace, each at the place of its number. Where parts are listed, each
-- unit's limit is one that a record can have.
pub record AreUnitsOf (ns : Namespace) (lists : Bool) (units : List UnitName) : Type 0 where
  pub count : length units ≡ units_of (regions_of ns)
  pub place : (k : ℕ) (unit : UnitName) → IsAt units k unit → IsUnitPlace (regions_of ns) k unit.bounds.place
  pub limit : lists ≡ true → (k : ℕ) (unit : UnitName) → IsAt units k unit → IsLimit unit.bounds.limit

-- what was reported in the unit, as plain data
abbrev pub reply_told : ℕ → PartReply → Reply
reply_told unit r = record { part = part_ended unit r.point r.result; statuses = r.statuses; payload = r.payload }

abbrev pub part_done : ℕ → Operation → Reply → PartDone
part_done number op reply = record { job = number; operation = op; reply = reply }

-- The part was done in the unit, these statuses are reported, and the data, if there is some, took the buffer's place.
pub record DoesPartInto (number unit : ℕ) (op : Operation) (statuses : Statuses) (old new : List ℕ) (p q : PassView) : Type 0 where
  pub reply : Reply
  pub here : reply.part.unit ≡ unit
  pub told : reply.statuses ≡ statuses
  pub read : new ≡ unwrap_or reply.payload old
  pub does : DoesPart (part_done number op reply) p q

-- what is reported about a job that ended with these statuses, this data and these parts
abbrev pub job_ended : Job → Statuses → Option (List ℕ) → List Part → JobDone → Type 0
job_ended job told read parts done = (done.completions ≡ completions_of job told read) × (done.parts.items ≡ parts)

-- The data of the reply was added to the bytes before it; or there was no memory for that, and the part found none.
abbrev pub IsGathered : ℕ → PartReply → List ℕ → List ℕ → Part → Statuses → Type 0
IsGathered unit r old new part statuses =
    ((part ≡ part_ended unit r.point r.result) × (statuses ≡ r.statuses) × (new ≡ old ++ unwrap_or r.payload []))
    ⊎ (IsSome r.payload × (part ≡ part_ended unit r.point result.NoMemory)
    × (statuses ≡ One internal_error))
