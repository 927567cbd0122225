-- The positions of an order (own).
use Rattle.std.specs.Prelude.{◌≡◌, ℕ, ◌+◌, ◌<◌, ◌≤◌, Some, slice_get}
use Rattle.nvm_standard.specs.PointView.{PointView, TableView}
use Rattle.nvm_standard.specs.OrderView.{OrderView, PlacedView}

-- At position i the order has p, and p is of the table's point q.
pub record StandsAt (t : TableView) (o : OrderView) (i : ℕ) (p : PlacedView) (q : PointView) : Type 0 where
  pub placed : slice_get o.placed i ≡ Some p
  pub its : slice_get t.points p.point ≡ Some q

-- The block is one of those in which it is done.
pub record HasBlock (p : PlacedView) (x : ℕ) : Type 0 where
  pub from : p.first ≤ x
  pub below : x < p.first + p.blocks

-- The block is one of the point's.
pub record IsOf (q : PointView) (x : ℕ) : Type 0 where
  pub from : q.first ≤ x
  pub below : x < q.first + q.blocks

-- At position i the point of number n is done in the block.
pub record IsDoneAt (o : OrderView) (n x i : ℕ) : Type 0 where
  pub p : PlacedView
  pub placed : slice_get o.placed i ≡ Some p
  pub its : p.point ≡ n
  pub block : HasBlock p x
