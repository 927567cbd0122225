-- The lowest number that passes a test.
use Rattle.std.specs.Prelude.{◌≡◌, ℕ, ◌<◌, ◌≤◌, Bool, true, false, Option, Some, None}

-- The lowest number from `from` on that passes the test, or that none does.
abbrev pub IsLowest : (ℕ → Bool) → ℕ → Option ℕ → Type 0
IsLowest test from None = (k : ℕ) → from ≤ k → test k ≡ false
IsLowest test from (Some unit) = (from ≤ unit) × (test unit ≡ true) × ((k : ℕ) → from ≤ k → k < unit → test k ≡ false)
