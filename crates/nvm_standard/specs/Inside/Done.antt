-- At which position each block of each point was done: a row for each point, with a place for each of its blocks. It is one more than the
-- position, or 0 where the block wasn't done.
use Rattle.std.specs.Prelude.{◌≡◌, ◌≢◌, ℕ, ◌+◌, ◌-◌, ◌<◌, ◌≤◌, List, length, Some, slice_get, slice_index}
use Rattle.nvm_standard.specs.PointView.{PointView, TableView}
use Rattle.nvm_standard.specs.declared.point.Presence.TheVariants.{Repeated}
use Rattle.nvm_standard.specs.OrderView.{OrderView}
use Rattle.nvm_standard.specs.Places.{IsDoneAt}

-- The row is of the point q of number n, by the first k positions.
pub record IsRowOf (o : OrderView) (k n : ℕ) (q : PointView) (row : List ℕ) : Type 0 where
  pub all : q.presence ≢ Repeated → length row ≡ q.blocks
  pub sound : (a i : ℕ) → slice_index row a ≡ i + 1 → IsDoneAt o n (q.first + a) i
  pub early : (a : ℕ) → slice_index row a ≤ k
  pub whole : q.presence ≢ Repeated → (x i : ℕ) → i < k → IsDoneAt o n x i → slice_index row (x - q.first) ≡ i + 1

pub record AreRows (t : TableView) (o : OrderView) (k : ℕ) (rows : List (List ℕ)) : Type 0 where
  pub many : length rows ≡ length t.points
  pub each : (n : ℕ) (q : PointView) (row : List ℕ) → slice_get t.points n ≡ Some q → slice_get rows n ≡ Some row
      → IsRowOf o k n q row
