-- The outcome of a job: the replies to its parts, one for each unit in which a part was done, and what
-- is reported to its host after them. That parts stop at the first without success, and what is reported for want of
-- memory or at a full history, are this project's own. Which status a comparison or a Read has rests on the
-- medium, and isn't said here.
use Rattle.std.specs.Prelude.{◌≡◌, ◌≢◌, ◌⊎◌, ℕ, if◌then◌else◌, List, [], ◌∷◌, ◌++◌, map, Option, Some, None, MatchOption, IsSomeAnd, unwrap_or}
use Rattle.std.specs.List.{AllByRecursion, flat_map}
use Rattle.nvm_record.specs.declared.status.Statuses.{Statuses}
use Rattle.nvm_record.specs.declared.status.Statuses.TheVariants.{One, Two}
use Rattle.nvm_record.specs.Status.{IsSuccess, internal_error, aborted_due_to_failed_fused_command}
use Rattle.nvm_record.specs.Deeds.{is_read, for_deed, success_of}
use Rattle.nvm_record.specs.Step.{Deed, Operation}
use Rattle.nvm_geometry.specs.Namespace.{Namespace}
use Rattle.nvm_geometry.specs.Parts.{units_met}
use Rattle.nvm_plan.specs.declared.job.Job.{Job}
use Rattle.nvm_plan.specs.Checks.{refusal_of}
use Rattle.nvm_plan.specs.Operation.{job_operation_of}
use Rattle.nvm_plan.specs.Reply.{Reply, IsReplyTo, IsSuccessfulReply}

-- the units in which these parts were done, in their order
abbrev pub units_told : List Reply → List ℕ
units_told replies = map (λ reply. reply.part.unit) replies

-- the data of the parts, joined in their order
abbrev pub data_told : List Reply → List ℕ
data_told replies = flat_map (λ reply. unwrap_or reply.payload []) replies

-- a Read by itself is answered with these bytes, everything else without data
abbrev pub answered : Deed → List ℕ → Option (List ℕ)
answered deed bytes = if is_read deed then Some bytes else None

-- what is reported where memory was refused before the first part
abbrev pub unstarted_of : Deed → Statuses
unstarted_of deed = for_deed deed (One internal_error) (Two internal_error aborted_due_to_failed_fused_command)

-- The parts so far were done in ascending order of units, each with success, and those in `left` are
-- still to be done.
pub record AreDone (ns : Namespace) (op : Operation) (replies : List Reply) (left : List ℕ) : Type 0 where
  pub units : units_told replies ++ left ≡ units_met ns op
  pub each : AllByRecursion (IsSuccessfulReply op.deed) replies

-- All parts were done, each with success.
pub record AllSucceed (ns : Namespace) (op : Operation) (replies : List Reply) (told : Statuses) (read : Option (List ℕ)) : Type 0 where
  pub done : AreDone ns op replies []
  pub statuses : told ≡ success_of op.deed
  pub payload : read ≡ answered op.deed (data_told replies)

-- The parts were done up to the first that didn't succeed, which decides.
pub record StopsAtLast (ns : Namespace) (op : Operation) (replies : List Reply) (told : Statuses) (read : Option (List ℕ)) : Type 0 where
  pub before : List Reply
  pub last : Reply
  -- the units of the parts that weren't done
  pub left : List ℕ
  pub are : replies ≡ before ++ last ∷ []
  pub done : AreDone ns op before (last.part.unit ∷ left)
  pub reply : IsReplyTo op.deed last
  pub failure : ¬ (IsSuccess last.statuses)
  pub statuses : told ≡ last.statuses
  pub payload : read ≡ None

-- Nothing was done, for want of memory before the first part. A job that has a part may always end so here: that a
-- growth was really refused, no definition can say. One that has none succeeds.
pub record IsUnstarted (ns : Namespace) (op : Operation) (replies : List Reply) (told : Statuses) (read : Option (List ℕ)) : Type 0 where
  pub some : units_met ns op ≢ []
  pub none_done : replies ≡ []
  pub statuses : told ≡ unstarted_of op.deed
  pub payload : read ≡ None

-- The outcome of an operation that isn't refused.
abbrev pub IsOutcomeOf : Namespace → Operation → List Reply → Statuses → Option (List ℕ) → Type 0
IsOutcomeOf ns op replies told read =
    AllSucceed ns op replies told read ⊎ (StopsAtLast ns op replies told read ⊎ IsUnstarted ns op replies told read)

-- Nothing was done.
pub record IsRefused (refusal : Statuses) (replies : List Reply) (told : Statuses) (read : Option (List ℕ)) : Type 0 where
  pub none_done : replies ≡ []
  pub statuses : told ≡ refusal
  pub payload : read ≡ None

-- The outcome of a job: these replies, and the job's statuses and data.
abbrev pub IsOutcome : Namespace → Job → List Reply → Statuses → Option (List ℕ) → Type 0
IsOutcome ns job replies told read =
    MatchOption (refusal_of ns job)
    (IsSomeAnd (job_operation_of ns job) (λ op. IsOutcomeOf ns op replies told read))
    (λ refusal. IsRefused refusal replies told read)
