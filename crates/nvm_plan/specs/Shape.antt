-- What a record of a job shows of its outcome: the parts, the statuses, and whether there is data. It
-- doesn't show what each unit reported, so that is judged elsewhere, the statuses of a failed comparison too.
use Rattle.std.specs.Prelude.{◌≡◌, ◌≢◌, ◌⊎◌, ◌↔◌, ℕ, List, [], ◌∷◌, ◌++◌, map, Bool, true, false, Option, None, IsTrue, IsSome, MatchOption, IsSomeAnd}
use Rattle.std.specs.List.{AllByRecursion}
use Rattle.nvm_record.specs.declared.status.Statuses.{Statuses}
use Rattle.nvm_record.specs.declared.status.Statuses.TheVariants.{One, Two}
use Rattle.nvm_record.specs.Deeds.{success_of}
use Rattle.nvm_record.specs.Status.{IsSuccess}
use Rattle.nvm_record.specs.Step.{Deed, Operation}
use Rattle.nvm_geometry.specs.Namespace.{Namespace}
use Rattle.nvm_geometry.specs.Parts.{units_met}
use Rattle.nvm_plan.specs.declared.job.Body.{Body}
use Rattle.nvm_plan.specs.declared.job.Body.TheVariants.{Single, Pair}
use Rattle.nvm_plan.specs.declared.job.Job.{Job}
use Rattle.nvm_plan.specs.declared.part.Part.{Part}
use Rattle.nvm_plan.specs.declared.part.PartResult.{PartResult}
use Rattle.nvm_plan.specs.declared.part.PartResult.TheVariants.{Done, Failed, Looked, NoMemory, Full}
use Rattle.nvm_plan.specs.Checks.{refusal_of}
use Rattle.nvm_plan.specs.Operation.{job_operation_of}
use Rattle.nvm_plan.specs.Reply.{can_have, stop_of, IsOneStatus, GivesData}
use Rattle.nvm_plan.specs.Outcome.{unstarted_of}

-- a part that ended so may have others after it
abbrev pub goes_on : PartResult → Bool
goes_on Done = true
goes_on Failed = false
goes_on Looked = true
goes_on NoMemory = false
goes_on Full = false

abbrev pub IsTwoStatuses : Statuses → Type 0
IsTwoStatuses (One s) = ⊥
IsTwoStatuses (Two s t) = Unit {0}

-- What the job's statuses may be where its last part ended so.
abbrev pub MayShow : Deed → PartResult → Statuses → Type 0
MayShow deed Done told = told ≡ success_of deed
MayShow deed Failed told = IsTwoStatuses told
MayShow deed Looked told = IsOneStatus told
MayShow deed NoMemory told = told ≡ stop_of deed
MayShow deed Full told = told ≡ stop_of deed

-- The parts are a front of the operation's, in ascending order of units, with results that fit, and the
-- last of them decides.
pub record EndsAtLast (ns : Namespace) (op : Operation) (parts : List Part) (told : Statuses) : Type 0 where
  pub before : List Part
  pub last : Part
  -- the units of the parts that aren't there
  pub left : List ℕ
  pub are : parts ≡ before ++ last ∷ []
  pub units : map (λ part. part.unit) parts ++ left ≡ units_met ns op
  pub results : AllByRecursion (λ part. IsTrue (can_have op.deed part.result)) parts
  pub going_on : AllByRecursion (λ part. IsTrue (goes_on part.result)) before
  pub statuses : MayShow op.deed last.result told
  pub whole : IsSuccess told → left ≡ []

-- The operation meets no unit: nothing is done, and that is success.
pub record MeetsNoUnit (ns : Namespace) (op : Operation) (parts : List Part) (told : Statuses) : Type 0 where
  pub none_met : units_met ns op ≡ []
  pub none_done : parts ≡ []
  pub statuses : told ≡ success_of op.deed

-- Nothing was done of an operation that has a part, for want of memory before the first.
pub record HasNoneDone (ns : Namespace) (op : Operation) (parts : List Part) (told : Statuses) : Type 0 where
  pub some : units_met ns op ≢ []
  pub none_done : parts ≡ []
  pub statuses : told ≡ unstarted_of op.deed

-- The parts and the statuses are those of an operation that isn't refused.
abbrev pub HasEnding : Namespace → Operation → List Part → Statuses → Type 0
HasEnding ns op parts told = MeetsNoUnit ns op parts told ⊎ (HasNoneDone ns op parts told ⊎ EndsAtLast ns op parts told)

pub record HasShapeOf (ns : Namespace) (op : Operation) (parts : List Part) (told : Statuses) (read : Option (List ℕ)) : Type 0 where
  pub ending : HasEnding ns op parts told
  pub payload : IsSome read ↔ GivesData op.deed told

-- Nothing was done.
pub record HasShapeOfRefusal (refusal : Statuses) (parts : List Part) (told : Statuses) (read : Option (List ℕ)) : Type 0 where
  pub none_done : parts ≡ []
  pub statuses : told ≡ refusal
  pub payload : read ≡ None

-- What is recorded of a job has the shape of an outcome.
abbrev pub HasOutcomeShape : Namespace → Job → List Part → Statuses → Option (List ℕ) → Type 0
HasOutcomeShape ns job parts told read =
    MatchOption (refusal_of ns job)
    (IsSomeAnd (job_operation_of ns job) (λ op. HasShapeOf ns op parts told read))
    (λ refusal. HasShapeOfRefusal refusal parts told read)

-- There is a status for each command of the body.
abbrev pub IsForEach : Body → Statuses → Type 0
IsForEach (Single c) told = IsOneStatus told
IsForEach (Pair c d) told = IsTwoStatuses told
