-- Which numbers workers have drawn from a counter, and which jobs they have done by them.
use Rattle.std.specs.Prelude.{◌≡◌, ℕ, zero, suc, ◌+◌, ◌<◌, ◌≤◌, ◌==◌, List, [], ◌∷◌, ◌++◌, replicate, slice_set, All, AllPairs, sum_by, count_by, IsPermutation}
use Rattle.std.specs.List.{AllZip}
use Rattle.nvm_record.specs.Lists.{IsAt}

-- the counter's word, and for each worker the numbers that it has drawn, in their order
pub record ClaimState : Type 0 where
  pub word : ℕ
  pub lists : List (List ℕ)

-- how many times one worker drew the number
abbrev pub times : ℕ → List ℕ → ℕ
times x xs = count_by (λ y. y == x) xs

-- how many times all workers together drew it
abbrev pub times_in : ℕ → List (List ℕ) → ℕ
times_in x lists = sum_by (times x) lists

-- Each number below n comes once, and no other comes, where `how_often` says how often one does.
pub record ComeOnceBelow (n : ℕ) (how_often : ℕ → ℕ) : Type 0 where
  pub below : (x : ℕ) → x < n → how_often x ≡ 1
  pub others : (x : ℕ) → n ≤ x → how_often x ≡ 0

-- A worker's numbers lie below the word, and rise. One that another follows is a job's.
pub record IsDrawn (jobs word : ℕ) (drawn : List ℕ) : Type 0 where
  pub below : All (λ x. x < word) drawn
  pub rises : AllPairs (λ x y. x < y) drawn
  pub jobs_first : AllPairs (λ x y. x < jobs) drawn

-- The numbers below the word were drawn, each once; and each worker's are as they must be.
pub record IsClaims (jobs : ℕ) (s : ClaimState) : Type 0 where
  pub once : ComeOnceBelow s.word (λ x. times_in x s.lists)
  pub each : All (IsDrawn jobs s.word) s.lists

-- nobody has drawn anything
abbrev pub opening_claims : ℕ → ClaimState
opening_claims workers = record { word = 0; lists = replicate workers [] }

-- The one kind of step: a worker whose numbers are all jobs' draws the word, which becomes one more.
pub record Draws (jobs : ℕ) (s t : ClaimState) : Type 0 where
  pub worker : ℕ
  pub drawn : List ℕ
  pub at : IsAt s.lists worker drawn
  pub goes_on : All (λ x. x < jobs) drawn
  pub word : t.word ≡ s.word + 1
  pub lists : t.lists ≡ slice_set s.lists worker (drawn ++ s.word ∷ [])

-- This number of draws leads from s to t, one after the other.
abbrev pub DrawsLead : ℕ → ℕ → ClaimState → ClaimState → Type 0
DrawsLead jobs zero s t = t ≡ s
DrawsLead jobs (suc n) s t = (u : ClaimState) × DrawsLead jobs n s u × Draws jobs u t

-- Some number of draws by this number of workers leads to this state.
abbrev pub IsReached : ℕ → ℕ → ClaimState → Type 0
IsReached jobs workers s = (n : ℕ) × DrawsLead jobs n (opening_claims workers) s

-- Draws led to this word and to these lists, in some order of the workers.
abbrev pub HasCome : ℕ → ℕ → ℕ → List (List ℕ) → Type 0
HasCome jobs workers word lists =
    (s : ClaimState) × IsReached jobs workers s × (s.word ≡ word) × IsPermutation s.lists lists

-- A worker that had drawn `done` found no job left: it has drawn one number more, past them.
pub record HasEnded (jobs : ℕ) (done drawn : List ℕ) : Type 0 where
  pub last : ℕ
  pub past : jobs ≤ last
  pub after : drawn ≡ done ++ last ∷ []

-- Each worker did exactly the jobs that it drew, and ended.
abbrev pub HaveEnded : ℕ → List (List ℕ) → List (List ℕ) → Type 0
HaveEnded jobs dones lists = AllZip (λ done drawn. All (λ x. x < jobs) done × HasEnded jobs done drawn) dones lists

-- Each job is found once in what the workers did, and nothing else is there.
abbrev pub AreDoneOnce : ℕ → List (List ℕ) → Type 0
AreDoneOnce jobs dones = ComeOnceBelow jobs (λ x. times_in x dones)
