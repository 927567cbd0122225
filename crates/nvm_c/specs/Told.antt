-- What C is told of a job that was done: the completions' entries, and the data of a Read.
use Rattle.std.specs.Prelude.{◌≡◌, ℕ, ◌≤◌, List, [], ◌++◌, length, take, drop, unwrap_or}
use Rattle.nvm_record.specs.Completion.{posted}
use Rattle.nvm_plan.specs.declared.completions.Completions.{Completions}
use Rattle.nvm_plan.specs.declared.completions.Completions.TheVariants.{One, Two}
use Rattle.nvm_plan.specs.declared.job.Body.{Body}
use Rattle.nvm_plan.specs.declared.job.Body.TheVariants.{Single, Pair}

-- Each status type fits the three bits that its entry has for it.
abbrev pub FitEntries : Completions → Type 0
FitEntries (One c) = c.status.sct ≤ 7
FitEntries (Two c d) = (c.status.sct ≤ 7) × (d.status.sct ≤ 7)

-- the entries, one after the other
abbrev pub all_posted : Completions → List ℕ
all_posted (One c) = posted c
all_posted (Two c d) = posted c ++ posted d

-- how many bytes they are
abbrev pub told_length : Completions → ℕ
told_length (One c) = 16
told_length (Two c d) = 32

-- how many bytes the entries of a job's completions are
abbrev pub posted_length : Body → ℕ
posted_length (Single c) = 16
posted_length (Pair c d) = 32

-- the data of a Read that succeeded, and else none
abbrev pub read_by : Completions → List ℕ
read_by (One c) = unwrap_or c.payload []
read_by (Two c d) = []

-- a buffer whose front the bytes have taken, as far as it reaches
abbrev pub overwritten : List ℕ → List ℕ → List ℕ
overwritten bytes buffer = take (length buffer) bytes ++ drop (length bytes) buffer

-- The completions are in the one buffer, and what was read in the other.
pub record AreTold (told : Completions) (buffer buffer' posted posted' : List ℕ) : Type 0 where
  pub entries : posted' ≡ all_posted told
  pub read : buffer' ≡ overwritten (read_by told) buffer
