-- Bytes as runs of equal bytes.
use Rattle.std.specs.Prelude.{◌≡◌, ◌≢◌, ◌==◌, ◌↔◌, ℕ, ◌+◌, ◌<◌, if◌then◌else◌, List, [], ◌∷◌, ◌++◌, replicate}

-- the same byte, `count` times
pub record Run : Type 0 where
  pub count : ℕ
  pub byte : ℕ

abbrev pub run_of : ℕ → ℕ → Run
run_of count byte = record { count = count; byte = byte }

-- A byte in front of runs makes the first of them longer, where that is of the same byte.
abbrev pub with_front : ℕ → List Run → List Run
with_front b [] = run_of 1 b ∷ []
with_front b (r ∷ rs) = if r.byte == b then run_of (r.count + 1) b ∷ rs else run_of 1 b ∷ r ∷ rs

-- the longest runs of equal bytes
abbrev pub runs : List ℕ → List Run
runs [] = []
runs (b ∷ bs) = with_front b (runs bs)

-- the bytes that runs stand for
abbrev pub written_out : List Run → List ℕ
written_out [] = []
written_out (r ∷ rs) = replicate r.count r.byte ++ written_out rs

-- each run has a byte
abbrev pub AreNonempty : List Run → Type 0
AreNonempty [] = Unit {0}
AreNonempty (r ∷ rs) = (0 < r.count) × AreNonempty rs

-- no two neighbours are of the same byte, so none can be longer
abbrev pub NeighboursDiffer : List Run → Type 0
NeighboursDiffer [] = Unit {0}
NeighboursDiffer (r ∷ []) = Unit {0}
NeighboursDiffer (r ∷ s ∷ rs) = (r.byte ≢ s.byte) × NeighboursDiffer (s ∷ rs)

-- The runs stand for the bytes, and none of them can be longer.
pub record AreLongestRuns (bytes : List ℕ) (rs : List Run) : Type 0 where
  pub whole : written_out rs ≡ bytes
  pub nonempty : AreNonempty rs
  pub longest : NeighboursDiffer rs

-- The longest runs of bytes are `runs bytes`, and no others.
abbrev pub RunsAreLongest : Type 0
RunsAreLongest = (bytes : List ℕ) (rs : List Run) → AreLongestRuns bytes rs ↔ (rs ≡ runs bytes)
