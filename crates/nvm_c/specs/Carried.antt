-- How much data goes with C's entries.
use Rattle.std.specs.Prelude.{◌≡◌, ℕ, ◌+◌, ◌*◌, ◌-◌, ◌^◌, if◌then◌else◌, List, [], ◌∷◌, ◌++◌, length, drop}
use Rattle.byteorder.specs.Endian.{little_number}
use Rattle.nvm_record.specs.Entry.{called_for}
use Rattle.nvm_plan.specs.declared.job.Job.{Job}
use Rattle.nvm_c.specs.Asked.{IsAsked, op_in, reads}

-- the data of an entry by itself, or the room for what it reads
abbrev pub carried_alone : ℕ → List ℕ → ℕ
carried_alone size entry =
    if reads (op_in entry) then (little_number 2 (drop 48 entry) + 1) * size else called_for size entry

-- With a buffer of this length, whatever its bytes are, the entries ask for a job, and with no other buffer.
pub record IsLengthWith (size : ℕ) (entries : List ℕ) (count : ℕ) : Type 0 where
  pub taken : (host : ℕ) (buffer : List ℕ) → length buffer ≡ count → (job : Job) × IsAsked size host entries buffer job
  pub only : (host : ℕ) (buffer : List ℕ) (job : Job) → IsAsked size host entries buffer job → length buffer ≡ count

-- what is answered where no buffer is right
abbrev pub no_length : ℕ
no_length = 2 ^ 64 - 1

-- what is answered for so many entries
abbrev pub IsCarried : ℕ → List (List ℕ) → ℕ → Type 0
IsCarried size [] count = count ≡ no_length
IsCarried size (entry ∷ []) count = IsLengthWith size entry count
IsCarried size (first ∷ (second ∷ [])) count = IsLengthWith size (first ++ second) count
IsCarried size (first ∷ (second ∷ (third ∷ rest))) count = count ≡ no_length
