-- How often each point is there: docs/STANDARD.md, "An explanation".
use Rattle.std.specs.Prelude.{◌≡◌, ◌≢◌, ℕ, ◌+◌, ◌<◌, true, Some, slice_get}
use Rattle.nvm_standard.specs.PointView.{PointView, TableView}
use Rattle.nvm_standard.specs.declared.point.Presence.TheVariants.{Sure, OneOf, Together, Repeated}
use Rattle.nvm_standard.specs.OrderView.{OrderView}
use Rattle.nvm_standard.specs.Places.{IsDoneAt, IsOf}

-- The point of number n is done in the block somewhere.
pub record IsDone (o : OrderView) (n x : ℕ) : Type 0 where
  pub position : ℕ
  pub done : IsDoneAt o n x position

-- The block was done of the point before, earlier.
pub record FollowsItsBlock (o : OrderView) (n x i : ℕ) : Type 0 where
  pub before : ℕ
  pub next : n ≡ before + 1
  pub position : ℕ
  pub earlier : position < i
  pub done : IsDoneAt o before x position

-- The point q of number n is there as its presence says.
pub record IsPresent (o : OrderView) (n : ℕ) (q : PointView) : Type 0 where
  -- each of its blocks is done at most once
  pub once : q.presence ≢ Repeated → (x i j : ℕ) → IsDoneAt o n x i → IsDoneAt o n x j → i ≡ j
  -- a sure one is done in each
  pub sure : q.presence ≡ Sure → (x : ℕ) → IsOf q x → IsDone o n x
  -- one that is done in one of its blocks is in one, and in no other
  pub some : q.presence ≡ OneOf → (x : ℕ) × IsDone o n x
  pub one : q.presence ≡ OneOf → (x y i j : ℕ) → IsDoneAt o n x i → IsDoneAt o n y j → x ≡ y
  -- one that is done together is in all, where it is in one
  pub together : q.presence ≡ Together → (x y i : ℕ) → IsDoneAt o n x i → IsOf q y → IsDone o n y
  -- a block comes after the same block of the point before, where that is asked
  pub after : q.after ≡ true → (x i : ℕ) → IsDoneAt o n x i → FollowsItsBlock o n x i

abbrev pub ArePresent : TableView → OrderView → Type 0
ArePresent t o = (n : ℕ) (q : PointView) → slice_get t.points n ≡ Some q → IsPresent o n q
