-- What a unit reports about the part of an operation that it did.
use Rattle.std.specs.Prelude.{◌≡◌, ◌⊎◌, ◌↔◌, ℕ, List, Bool, true, not, Option, None, IsTrue, IsSome}
use Rattle.nvm_record.specs.declared.status.Status.{Status}
use Rattle.nvm_record.specs.declared.status.Statuses.{Statuses}
use Rattle.nvm_record.specs.declared.status.Statuses.TheVariants.{One, Two}
use Rattle.nvm_record.specs.Status.{IsSuccess, successful_completion, internal_error, aborted_due_to_failed_fused_command, unrecovered_read_error, compare_failure}
use Rattle.nvm_record.specs.Deeds.{is_read, is_look, is_pair, for_deed, success_of}
use Rattle.nvm_record.specs.Medium.{Medium}
use Rattle.nvm_record.specs.Step.{Deed, Operation, writes, zeroes, uncorrectable, reads, compares, pairs, deallocates, statuses_of, data_of}
use Rattle.nvm_geometry.specs.Namespace.{Namespace}
use Rattle.nvm_geometry.specs.Parts.{part_in}
use Rattle.nvm_plan.specs.declared.part.Part.{Part}
use Rattle.nvm_plan.specs.declared.part.PartResult.{PartResult}
use Rattle.nvm_plan.specs.declared.part.PartResult.TheVariants.{Done, Failed, Looked, NoMemory, Full}

-- a part that was done, what would be reported to its host about it alone, and the data that a Read's part read
pub record Reply : Type 0 where
  pub part : Part
  pub statuses : Statuses
  pub payload : Option (List ℕ)

-- which results a part of the deed can have
abbrev pub can_have : Deed → PartResult → Bool
can_have deed Done = not (is_look deed)
can_have deed Failed = is_pair deed
can_have deed Looked = is_look deed
can_have deed NoMemory = true
can_have deed Full = not (is_look deed)

-- What is reported about a stop: memory was refused in a unit, or its history is full. A pair's comparison came
-- before that, and held.
abbrev pub stop_of : Deed → Statuses
stop_of deed = for_deed deed (One internal_error) (Two successful_completion internal_error)

-- how a comparison ends that doesn't hold: a block is marked, or a byte differs
abbrev pub IsFailedComparison : Status → Type 0
IsFailedComparison s = (s ≡ unrecovered_read_error) ⊎ (s ≡ compare_failure)

-- A comparison failed, and the Write with it.
abbrev pub AreOfFailedPair : Statuses → Type 0
AreOfFailedPair (One s) = ⊥
AreOfFailedPair (Two s t) = IsFailedComparison s × (t ≡ aborted_due_to_failed_fused_command)

abbrev pub IsOneStatus : Statuses → Type 0
IsOneStatus (One s) = Unit {0}
IsOneStatus (Two s t) = ⊥

-- the statuses with which a look can end: those that some medium gives
abbrev pub CanEndLook : Deed → Status → Type 0
CanEndLook (writes payload) s = ⊥
CanEndLook zeroes s = ⊥
CanEndLook uncorrectable s = ⊥
CanEndLook reads s = (s ≡ successful_completion) ⊎ (s ≡ unrecovered_read_error)
CanEndLook (compares payload) s = (s ≡ successful_completion) ⊎ IsFailedComparison s
CanEndLook (pairs payload new) s = ⊥
CanEndLook (deallocates ranges) s = ⊥

abbrev pub IsOfLook : Deed → Statuses → Type 0
IsOfLook deed (One s) = CanEndLook deed s
IsOfLook deed (Two s t) = ⊥

-- What may be reported about a part that ended so. Which of the statuses of a failed comparison and of a look it is,
-- rests on the medium.
abbrev pub MayTell : Deed → PartResult → Statuses → Type 0
MayTell deed Done told = told ≡ success_of deed
MayTell deed Failed told = AreOfFailedPair told
MayTell deed Looked told = IsOfLook deed told
MayTell deed NoMemory told = told ≡ stop_of deed
MayTell deed Full told = told ≡ stop_of deed

-- It was a Read by itself, and succeeded: data is reported for this alone.
abbrev pub GivesData : Deed → Statuses → Type 0
GivesData deed told = IsTrue (is_read deed) × IsSuccess told

-- The reply is one to a part of the deed.
pub record IsReplyTo (deed : Deed) (r : Reply) : Type 0 where
  pub result : IsTrue (can_have deed r.part.result)
  pub told : MayTell deed r.part.result r.statuses
  pub payload : IsSome r.payload ↔ GivesData deed r.statuses

-- The reply is one to a part of the deed that succeeded.
pub record IsSuccessfulReply (deed : Deed) (r : Reply) : Type 0 where
  pub reply : IsReplyTo deed r
  pub success : IsSuccess r.statuses

-- the reply of a part that rests on this medium: what the step reports about the operation's part in its unit
abbrev pub reply_on : Namespace → Operation → Medium → Part → Reply
reply_on ns op m part =
    record { part = part; statuses = statuses_of (part_in ns op part.unit) m; payload = data_of (part_in ns op part.unit) m }

-- the reply of a part for which memory was refused, or whose unit was full
abbrev pub reply_of_stop : Deed → Part → Reply
reply_of_stop deed part = record { part = part; statuses = stop_of deed; payload = None }
