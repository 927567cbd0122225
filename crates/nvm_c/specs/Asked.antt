-- The job for which C's entries ask.
use Rattle.std.specs.Prelude.{◌≡◌, ℕ, ◌+◌, ◌*◌, Bool, true, false, if◌then◌else◌, IsTrue, List, [], ◌++◌, length, take, drop, slice_index}
use Rattle.byteorder.specs.Endian.{little_number}
use Rattle.nvm_record.specs.Entry.{IsSpelling, called_for}
use Rattle.nvm_record.specs.Op.{op_of, deallocate_of}
use Rattle.nvm_record.specs.declared.op.Op.{Op}
use Rattle.nvm_record.specs.declared.op.Op.TheVariants.{Write, Read, WriteUncorrectable, Compare, WriteZeroes, Dataset, Other}
use Rattle.nvm_record.specs.declared.command.Command.{Command}
use Rattle.nvm_plan.specs.declared.job.Body.{Body}
use Rattle.nvm_plan.specs.declared.job.Body.TheVariants.{Single, Pair}
use Rattle.nvm_plan.specs.declared.job.Job.{Job}

-- the operation of an entry
abbrev pub op_in : List ℕ → Op
op_in entry = op_of (slice_index entry 0) (deallocate_of (slice_index entry 44))

-- whether it is a Read
abbrev pub reads : Op → Bool
reads Read = true
reads Write = false
reads WriteUncorrectable = false
reads Compare = false
reads WriteZeroes = false
reads (Dataset deallocate) = false
reads (Other opcode) = false

-- what of the buffer goes with a command: nothing with a Read, for which it is room
abbrev pub sent_with : Op → List ℕ → List ℕ
sent_with op buffer = if reads op then [] else buffer

-- how many bytes a job reads, if it succeeds
abbrev pub room_of : ℕ → Body → ℕ
room_of size (Single c) = if reads c.op then (c.nlb + 1) * size else 0
room_of size (Pair c d) = 0

-- An entry by itself asks for the command, with the buffer that it calls for.
pub record IsAskedAlone (size : ℕ) (entry buffer : List ℕ) (c : Command) : Type 0 where
  pub whole : length entry ≡ 64
  pub spelled : IsSpelling size (entry ++ sent_with (op_in entry) buffer) c
  pub room : IsTrue (reads (op_in entry)) → length buffer ≡ (little_number 2 (drop 48 entry) + 1) * size

-- Two entries ask for the commands, the data of the first before that of the second.
pub record IsAskedTogether (size : ℕ) (entries buffer : List ℕ) (c d : Command) : Type 0 where
  pub whole : length entries ≡ 128
  pub first : IsSpelling size (take 64 entries ++ take (called_for size (take 64 entries)) buffer) c
  pub second : IsSpelling size (drop 64 entries ++ drop (called_for size (take 64 entries)) buffer) d

abbrev pub AskFor : ℕ → List ℕ → List ℕ → Body → Type 0
AskFor size entries buffer (Single c) = IsAskedAlone size entries buffer c
AskFor size entries buffer (Pair c d) = IsAskedTogether size entries buffer c d

-- The entries ask for the job, by the host of this number.
pub record IsAsked (size host : ℕ) (entries buffer : List ℕ) (job : Job) : Type 0 where
  pub by_host : job.host ≡ host
  pub body : AskFor size entries buffer job.body
