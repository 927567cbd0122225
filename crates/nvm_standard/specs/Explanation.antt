-- When an order explains a trace: docs/STANDARD.md, "An explanation", of the table of the trace's points.
use Rattle.std.specs.Prelude.{◌≡◌, Some, slice_get}
use Rattle.std.specs.List.{All}
use Rattle.nvm_standard.specs.PointView.{PointView, TableView}
use Rattle.nvm_standard.specs.Clauses.{KeepsTime, FindsContents, KeepsTied, KeepsDeallocates}
use Rattle.nvm_standard.specs.Fits.{FitsFirst, FitsPoint, MayBegin}
use Rattle.nvm_standard.specs.OrderView.{OrderView, PlacedView}
use Rattle.nvm_standard.specs.Presence.{ArePresent}

-- What is placed is a point of the table, and fits it.
pub record IsPlacedRight (t : TableView) (p : PlacedView) : Type 0 where
  pub point : PointView
  pub its : slice_get t.points p.point ≡ Some point
  pub fits : FitsPoint t p point

-- The order explains a trace of this table.
pub record IsExplanation (t : TableView) (o : OrderView) : Type 0 where
  pub start : MayBegin t.start o.first
  pub firsts : All (FitsFirst t) o.first
  pub fits : All (IsPlacedRight t) o.placed
  pub present : ArePresent t o
  pub time : KeepsTime t o
  pub contents : FindsContents t o
  pub tied : KeepsTied t o
  pub deallocates : KeepsDeallocates t o
