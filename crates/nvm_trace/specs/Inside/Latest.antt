-- The greatest beginnings of a unit's steps, by level: what a table of them holds while it is made.
use Rattle.std.specs.Prelude.{◌≡◌, ℕ, ◌+◌, ◌<◌, ◌≤◌, List, [], ◌∷◌, length, max, take, Contains, slice_index, slice_index_or}
use Rattle.nvm_trace.specs.declared.step.Step.{Step}
use Rattle.nvm_trace.specs.Order.{level_of}

-- the greatest of the numbers, 0 where there is none
abbrev pub greatest : List ℕ → ℕ
greatest [] = 0
greatest (x ∷ xs) = max x (greatest xs)

-- what the table has of this level of this unit
abbrev pub time_at : List (List ℕ) → ℕ → ℕ → ℕ
time_at rows unit level = slice_index (slice_index_or rows unit []) level

-- The table has a place for the step.
abbrev pub HasRoom : List (List ℕ) → Step → Type 0
HasRoom rows s = (s.unit < length rows) × (level_of s < length (slice_index_or rows s.unit []))

-- The time is the greatest at which a step of this unit began whose level passes the test; 0 where there is none.
pub record IsLatest (steps : List Step) (unit : ℕ) (Passes : ℕ → Type 0) (time : ℕ) : Type 0 where
  pub above : (s : Step) → Contains steps s → s.unit ≡ unit → Passes (level_of s) → s.began ≤ time
  pub one : 0 < time → (s : Step) × Contains steps s × (s.unit ≡ unit) × Passes (level_of s) × (s.began ≡ time)

-- The table has the greatest beginning at each level.
abbrev pub HasEachLevel : List Step → List (List ℕ) → Type 0
HasEachLevel steps rows = (unit level : ℕ) → IsLatest steps unit (λ l. l ≡ level) (time_at rows unit level)

-- The table has the greatest beginning up to each level for which it has a place.
abbrev pub HasUpToEach : List Step → List (List ℕ) → Type 0
HasUpToEach steps rows =
    (unit level : ℕ) → level < length (slice_index_or rows unit []) → IsLatest steps unit (λ l. l ≤ level) (time_at rows unit level)

-- The numbers before place i are the greatest up to them, and the others are as they were; `latest` is the greatest before i.
pub record IsRaisedTo (old row : List ℕ) (i latest : ℕ) : Type 0 where
  pub long : length row ≡ length old
  pub raised : (k : ℕ) → k < i → slice_index row k ≡ greatest (take (k + 1) old)
  pub left : (k : ℕ) → i ≤ k → slice_index row k ≡ slice_index old k
  pub latest_is : latest ≡ greatest (take i old)

-- The rows of the units before this one have the greatest up to each level, and the others are as they were.
pub record AreRaisedTo (old rows : List (List ℕ)) (unit : ℕ) : Type 0 where
  pub long : length rows ≡ length old
  pub each : (u : ℕ) → length (slice_index_or rows u []) ≡ length (slice_index_or old u [])
  pub raised : (u level : ℕ) → u < unit → level < length (slice_index_or old u [])
      → time_at rows u level ≡ greatest (take (level + 1) (slice_index_or old u []))
  pub left : (u : ℕ) → unit ≤ u → slice_index_or rows u [] ≡ slice_index_or old u []
