-- What contracts see of a counter and of its claims.
use Rattle.std.specs.Prelude.{◌≡◌, ℕ, ◌<◌, ◌≤◌, List, [], map, length, All}
use Rattle.atomic_table.specs.Seated.{TableId}
use Rattle.nvm_audit.specs.Recordable.{most_workers}

-- A run has 1 to 64 workers.
abbrev pub IsWorkerCount : ℕ → Type 0
IsWorkerCount count = (0 < count) × (count ≤ most_workers)

-- which counter it is, and what is settled of it
pub record CounterName : Type 0 where
  pub table : TableId
  pub jobs : ℕ
  pub workers : ℕ

-- the counter that a claim is of, and the numbers that its worker has drawn
pub record ClaimView : Type 0 where
  pub table : TableId
  pub drawn : List ℕ

-- the claim of a worker that has drawn nothing
abbrev pub new_claim : TableId → ClaimView
new_claim table = record { table = table; drawn = [] }

abbrev pub lists_of : List ClaimView → List (List ℕ)
lists_of claims = map (λ c. c.drawn) claims

-- These are claims of the counter, as many as it has workers.
pub record AreAllClaimsOf (counter : CounterName) (claims : List ClaimView) : Type 0 where
  pub count : length claims ≡ counter.workers
  pub of : All (λ c. c.table ≡ counter.table) claims
