-- Fields of a record file, read from the front. A reading gives a value and the bytes behind it, or the first fault that is
-- met. The offset of what is left is known from its length and from that of the whole file, `total`.
use Rattle.std.specs.Prelude.{◌≡◌, ◌⊎◌, ℕ, zero, suc, ◌+◌, ◌-◌, nat_lt, ◌||◌, if◌then◌else◌, List, [], ◌∷◌, length, take, drop, Result, Ok, Err}
use Rattle.byteorder.specs.Endian.{little_number}
use Rattle.nvm_file.specs.declared.record_fault.RecordFault.{RecordFault}
use Rattle.nvm_file.specs.declared.record_fault.RecordFault.TheVariants.{Truncated, BadValue, NoMemory}

-- what is read of what comes before, then what follows it; the first fault ends the reading
infixl 10 ◌>>=◌
abbrev pub ◌>>=◌ : {A B E : Type 0} → Result A E → (A → Result B E) → Result B E
(Ok x) >>= f = f x
(Err e) >>= f = Err e

-- the offset at which what is left begins
abbrev pub offset : ℕ → List ℕ → ℕ
offset total bytes = total - length bytes

-- the field that begins here isn't whole
abbrev pub cut_short : {A : Type 0} → ℕ → List ℕ → Result A RecordFault
cut_short total bytes = Err (Truncated (offset total bytes))

-- the value of the field that begins here isn't allowed
abbrev pub refused : {A : Type 0} → ℕ → List ℕ → Result A RecordFault
refused total bytes = Err (BadValue (offset total bytes))

-- a run of so many bytes
unfoldable pub bytes_at : ℕ → ℕ → List ℕ → Result (List ℕ × List ℕ) RecordFault
bytes_at total count bytes = if nat_lt (length bytes) count then cut_short total bytes else Ok (take count bytes, drop count bytes)

-- a number of so many bytes, the lowest first
unfoldable pub number_at : ℕ → ℕ → List ℕ → Result (ℕ × List ℕ) RecordFault
number_at total count bytes =
    if nat_lt (length bytes) count then cut_short total bytes else Ok (little_number count bytes, drop count bytes)

-- such a number, from `low` to `high`
unfoldable pub number_in : ℕ → ℕ → ℕ → ℕ → List ℕ → Result (ℕ × List ℕ) RecordFault
number_in total count low high bytes = do
  n ← number_at total count bytes
  if nat_lt n.0 low || nat_lt high n.0 then refused total bytes else Ok n

-- such a number, below `end`
unfoldable pub number_below : ℕ → ℕ → ℕ → List ℕ → Result (ℕ × List ℕ) RecordFault
number_below total count end bytes = do
  n ← number_at total count bytes
  if nat_lt n.0 end then Ok n else refused total bytes

module _ {A E : Type 0} where
  -- so many items, one after the other; the first of them is at this place
  unfoldable pub items_at : (ℕ → List ℕ → Result (A × List ℕ) E) → ℕ → ℕ → List ℕ → Result (List A × List ℕ) E
  items_at item place zero bytes = Ok ([], bytes)
  items_at item place (suc count) bytes = do
    first ← item place bytes
    others ← items_at item (place + 1) count first.1
    Ok (first.0 ∷ others.0, others.1)

-- What a function answers, seen by `view`, is what is read, unless the answer is a fault that is excused.
abbrev pub GivesUnless : {X Y E : Type 0} → (E → Type 0) → (X → Y) → Result X E → Result Y E → Type 0
GivesUnless excused view (Ok x) read = read ≡ Ok (view x)
GivesUnless excused view (Err e) read = (read ≡ Err e) ⊎ excused e

-- The same unless memory runs out.
abbrev pub Gives : {X Y : Type 0} → (X → Y) → Result X RecordFault → Result Y RecordFault → Type 0
Gives view answer read = GivesUnless (λ e. e ≡ NoMemory) view answer read
