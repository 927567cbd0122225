-- The rule of the counter's table.
use Rattle.std.specs.Prelude.{◌≡◌, ℕ, ◌+◌, ◌≤◌, ◌<◌, ◌^◌, List, [], ◌∷◌, replicate, All, sum_by, count_by, leb}
use Rattle.atomic_table.specs.Table.{State}
use Rattle.nvm_engine.specs.declared.bounds.Bounds.{Bounds}
use Rattle.nvm_engine.specs.Claims.{ClaimState, IsReached, times, ComeOnceBelow, IsDrawn}

-- what seats carry, and what is counted of each list, added up
abbrev pub total : (List ℕ → ℕ) → List (List (List ℕ)) → ℕ
total h groups = sum_by (sum_by h) groups

-- how many of the numbers are no job's
abbrev pub past : ℕ → List ℕ → ℕ
past jobs drawn = count_by (λ x. leb jobs x) drawn

-- Draws led to this word and to these lists, wherever they are: whatever is counted of each list is the same.
abbrev pub HasComeTo : Bounds → ℕ → List (List (List ℕ)) → Type 0
HasComeTo b word groups =
    (s : ClaimState) × IsReached b.jobs b.workers s × (s.word ≡ word) × ((h : List ℕ → ℕ) → sum_by h s.lists ≡ total h groups)

-- The lists of all seats together are claims. `few` bounds the word: each worker draws at most one number past
-- the jobs.
pub record IsShared (b : Bounds) (word : ℕ) (groups : List (List (List ℕ))) : Type 0 where
  pub once : ComeOnceBelow word (λ x. total (times x) groups)
  pub each : All (All (IsDrawn b.jobs word)) groups
  pub count : total (λ drawn. 1) groups ≡ b.workers
  pub come : HasComeTo b word groups
  pub few : word ≤ b.jobs + total (past b.jobs) groups

-- A key has no ranges of its own.
pub record IsRuled (b : Bounds) (table : State (Unit {0}) (List (List ℕ))) : Type 0 where
  pub jobs : b.jobs < 2 ^ 32
  pub workers : b.workers < 2 ^ 16
  pub word : ℕ
  pub words : table.words ≡ word ∷ []
  pub claims : IsShared b word table.views

-- what the first seat carries: nobody has drawn anything
abbrev pub no_numbers : Bounds → List (List ℕ)
no_numbers b = replicate b.workers []
