-- Fields of a file of evidence, read from the front: a value and the bytes behind it, or the first fault that is met. The offset of what is
-- left is known from its length and from that of the whole file, `total`.
use Rattle.std.specs.Prelude.{◌≡◌, ℕ, nat_lt, ◌||◌, if◌then◌else◌, List, [], ◌∷◌, length, take, drop, Result, Ok, Err}
use Rattle.byteorder.specs.Endian.{little_number}
use Rattle.nvm_evidence.specs.declared.evidence_fault.EvidenceFault.{EvidenceFault}
use Rattle.nvm_evidence.specs.declared.evidence_fault.EvidenceFault.TheVariants.{Truncated, Trailing, BadValue, NoMemory}
use Rattle.nvm_file.specs.Fields.{◌>>=◌, GivesUnless, items_at, offset}

-- a run of so many bytes
unfoldable pub bytes_at : ℕ → ℕ → List ℕ → Result (List ℕ × List ℕ) EvidenceFault
bytes_at total count bytes =
    if nat_lt (length bytes) count then Err (Truncated (offset total bytes)) else Ok (take count bytes, drop count bytes)

-- a number of so many bytes, the lowest first
unfoldable pub number_at : ℕ → ℕ → List ℕ → Result (ℕ × List ℕ) EvidenceFault
number_at total count bytes =
    if nat_lt (length bytes) count then Err (Truncated (offset total bytes)) else Ok (little_number count bytes, drop count bytes)

-- a kind: a byte from `low` to `high`
unfoldable pub kind_at : ℕ → ℕ → ℕ → List ℕ → Result (ℕ × List ℕ) EvidenceFault
kind_at total low high bytes = do
  kind ← number_at total 1 bytes
  if nat_lt kind.0 low || nat_lt high kind.0 then Err (BadValue (offset total bytes)) else Ok kind

-- how many items there are, in eight bytes, and each of them
unfoldable pub counted_at : {A : Type 0} → ℕ → (List ℕ → Result (A × List ℕ) EvidenceFault) → List ℕ → Result (List A × List ℕ) EvidenceFault
counted_at total item bytes = do
  count ← number_at total 8 bytes
  items_at (λ _. item) 0 count.0 count.1

-- what is made of what is read
abbrev pub made : {A B : Type 0} → (A → B) → Result (A × List ℕ) EvidenceFault → Result (B × List ℕ) EvidenceFault
made make read = read >>= λ x. Ok (make x.0, x.1)

-- what a whole file says, where nothing stands behind it
abbrev pub whole : {A : Type 0} → ℕ → A → List ℕ → Result A EvidenceFault
whole total x [] = Ok x
whole total x (b ∷ bs) = Err (Trailing (offset total (b ∷ bs)))

-- What a function answers, seen by `view`, is what is read, unless memory runs out.
abbrev pub Gives : {X Y : Type 0} → (X → Y) → Result X EvidenceFault → Result Y EvidenceFault → Type 0
Gives view answer read = GivesUnless (λ e. e ≡ NoMemory) view answer read
