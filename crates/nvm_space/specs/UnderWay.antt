-- A job that was begun and isn't done: what was done of it, and what the port's passes have seen meanwhile (own).
use Rattle.std.specs.Prelude.{◌≡◌, ◌⊎◌, ℕ, ◌+◌, ◌<◌, ◌≤◌, Bool, true, List, ◌∷◌, length, map, Some, None}
use Rattle.std.specs.List.{AllByRecursion}
use Rattle.nvm_record.specs.Step.{Operation}
use Rattle.nvm_geometry.specs.Boundaries.{unit_number}
use Rattle.nvm_geometry.specs.Large.{region_of}
use Rattle.nvm_geometry.specs.Namespace.{Namespace}
use Rattle.nvm_plan.specs.Checks.{refusal_of}
use Rattle.nvm_plan.specs.JobPart.{job_units_from}
use Rattle.nvm_plan.specs.Operation.{job_operation_of}
use Rattle.nvm_plan.specs.Outcome.{data_told, AreDone}
use Rattle.nvm_plan.specs.declared.job.Job.{Job}
use Rattle.nvm_plan.specs.declared.part.Part.{Part}
use Rattle.nvm_unit.specs.Replies.{Waits}
use Rattle.nvm_unit.specs.declared.views.PassView.{PassView}
use Rattle.nvm_space.specs.Trace.{PartDone, DoesParts, IsPartOfJob, listed_of}
use Rattle.nvm_space.specs.Visits.{BecomesAt}

-- the job's number, an LBA of the unit of its next part, the parts that were done, where they are listed, what they read, and for how many parts
-- in all the list has room
pub record UnderWay : Type 0 where
  pub number : ℕ
  pub lba : ℕ
  pub parts : List Part
  pub bytes : List ℕ
  pub room : ℕ

-- Parts of the job were done, each with success; they read these bytes, and those in the units `left` are left.
pub record HaveDone (ns : Namespace) (lists : Bool) (number : ℕ) (job : Job) (op : Operation) (start now : List PassView)
    (left : List ℕ) (listed : List Part) (bytes : List ℕ) : Type 0 where
  pub parts : List PartDone
  pub does : DoesParts (region_of ns) parts start now
  pub each : AllByRecursion (IsPartOfJob ns number job) parts
  pub done : AreDone ns op (map (λ did. did.reply) parts) left
  pub read : data_told (map (λ did. did.reply) parts) ≡ bytes
  pub are_listed : listed ≡ listed_of lists parts

-- The pass of the region may have found that it couldn't have it, which is no part.
abbrev pub MayHaveWaited : ℕ → List PassView → List PassView → Type 0
MayHaveWaited region old new = (new ≡ old) ⊎ BecomesAt region Waits old new

-- the unit of the next part
abbrev pub next_unit : Namespace → UnderWay → ℕ
next_unit ns w = unit_number ns w.lba

-- and those after it in which the job has a part
abbrev pub units_left : Namespace → Job → UnderWay → List ℕ
units_left ns job w = next_unit ns w ∷ job_units_from ns job (next_unit ns w + 1)

-- The job isn't refused. Since `start` its parts before the next one were done, each with success, and the port has done
-- nothing else but ask for the region of the next one. Where parts are listed, there is room for all that are left.
pub record IsUnderWay (ns : Namespace) (lists : Bool) (job : Job) (w : UnderWay) (start now : List PassView) : Type 0 where
  pub free : refusal_of ns job ≡ None
  pub known : w.lba < ns.nsze
  pub op : Operation
  pub is_op : job_operation_of ns job ≡ Some op
  pub reached : List PassView
  pub have : HaveDone ns lists w.number job op start reached (units_left ns job w) w.parts w.bytes
  pub waited : MayHaveWaited (region_of ns (next_unit ns w)) reached now
  pub room : lists ≡ true → length w.parts + length (units_left ns job w) ≤ w.room
