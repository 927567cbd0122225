-- What comes before what by the times of commands (own).
use Rattle.std.specs.Prelude.{◌≡◌, ◌≢◌, ◌⊎◌, ℕ, ◌<◌, true, Option, Some, slice_get}
use Rattle.nvm_standard.specs.PointView.{PointView, TableView}
use Rattle.nvm_standard.specs.declared.point.Presence.TheVariants.{Sure}
use Rattle.nvm_standard.specs.Clauses.{is_put}
use Rattle.nvm_standard.specs.Places.{IsOf}
use Rattle.nvm_standard.specs.Knowledge.{Knowledge}
use Rattle.nvm_standard.specs.Nodes.{node_at}

-- There is a time, and it is before that.
pub record WasOver (time : Option ℕ) (from : ℕ) : Type 0 where
  pub at : ℕ
  pub is : time ≡ Some at
  pub before : at < from

-- The time of the one was over before that of the other, which is another point, began.
pub record IsTime (t : TableView) (earlier later : ℕ) : Type 0 where
  pub other : earlier ≢ later
  pub first : PointView
  pub first_is : slice_get t.points earlier ≡ Some first
  pub second : PointView
  pub second_is : slice_get t.points later ≡ Some second
  pub over : WasOver first.until second.from

-- The Deallocate was over before the writer began, which is sure and puts the block.
pub record IsDeallocate (t : TableView) (deallocate writer x : ℕ) : Type 0 where
  pub other : deallocate ≢ writer
  pub first : PointView
  pub first_is : slice_get t.points deallocate ≡ Some first
  pub deallocated : IsOf first x
  pub second : PointView
  pub second_is : slice_get t.points writer ≡ Some second
  pub sure : second.presence ≡ Sure
  pub puts : is_put second.put ≡ true
  pub written : IsOf second x
  pub over : WasOver first.over second.from

-- At the block the one comes before the other: that is known, or by their times.
abbrev pub ComesBefore : TableView → Knowledge → ℕ → ℕ → ℕ → Type 0
ComesBefore t K earlier later x =
    K.before (node_at t earlier x) (node_at t later x) ⊎ (IsTime t earlier later ⊎ IsDeallocate t earlier later x)
