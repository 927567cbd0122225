-- What a look is answered.
use Rattle.std.specs.Prelude.{◌≡◌, ℕ, ◌*◌, IsTrue, List, length, Option, Some, None, unwrap_or}
use Rattle.nvm_record.specs.Deeds.{is_read}
use Rattle.nvm_record.specs.declared.status.Status.{Status as StatusCode}
use Rattle.nvm_record.specs.declared.status.Statuses.{Statuses}
use Rattle.nvm_record.specs.declared.status.Statuses.TheVariants.{One}
use Rattle.nvm_record.specs.Medium.{Medium}
use Rattle.nvm_record.specs.Status.{successful_completion}
use Rattle.nvm_record.specs.Step.{Operation, statuses_of, data_of}
use Rattle.nvm_store.specs.declared.look.answer.Answer.{Answer}
use Rattle.nvm_store.specs.declared.look.answer.Answer.TheVariants.{Payload, Status}

-- the status that an answer reports: data comes with success
abbrev pub told_by : Answer → Statuses
told_by (Payload bytes) = One successful_completion
told_by (Status status) = One status

-- the data of an answer
abbrev pub read_by : Answer → Option (List ℕ)
read_by (Payload bytes) = Some bytes
read_by (Status status) = None

-- The answer is that of the step on this medium.
abbrev pub IsAnswer : Operation → Medium → Answer → Type 0
IsAnswer op m answer = (told_by answer ≡ statuses_of op m) × (read_by answer ≡ data_of op m)

-- The status is that of the step on this medium, and its data, where it has any, took a buffer's place.
pub record IsAnswerInto (op : Operation) (m : Medium) (status : StatusCode) (old new : List ℕ) : Type 0 where
  pub told : One status ≡ statuses_of op m
  pub read : new ≡ unwrap_or (data_of op m) old

-- The buffer has as many bytes as a Read reads, in blocks of `size`.
abbrev pub IsRoomFor : Operation → ℕ → List ℕ → Type 0
IsRoomFor op size buffer = IsTrue (is_read op.deed) → length buffer ≡ op.blocks * size

-- The answer's data, where it has any, has `count` bytes.
abbrev pub HasBytes : ℕ → Answer → Type 0
HasBytes count (Payload bytes) = length bytes ≡ count
HasBytes count (Status status) = Unit {0}
