-- What rows have to be like.
use Rattle.std.specs.Prelude.{◌≡◌, ◌≢◌, ◌⊎◌, ℕ, ◌+◌, ◌-◌, ◌<◌, ◌≤◌, true, false, List, length, Some, slice_get, slice_index}
use Rattle.nvm_standard.specs.PointView.{PointView, TableView}
use Rattle.nvm_standard.specs.declared.point.Presence.TheVariants.{Sure, OneOf, Together, Repeated}
use Rattle.nvm_standard.specs.Clauses.{is_put}
use Rattle.nvm_standard.specs.OrderView.{OrderView, PlacedView}
use Rattle.nvm_standard.specs.Places.{StandsAt, HasBlock, IsDoneAt}

-- Each block was done.
abbrev pub IsFull : List ℕ → Type 0
IsFull row = (a : ℕ) → a < length row → slice_index row a ≢ 0

-- None was.
abbrev pub IsEmpty : List ℕ → Type 0
IsEmpty row = (a : ℕ) → slice_index row a ≡ 0

-- Exactly one was.
pub record HasOne (row : List ℕ) : Type 0 where
  pub place : ℕ
  pub there : slice_index row place ≢ 0
  pub alone : (a : ℕ) → slice_index row a ≢ 0 → a ≡ place

-- The row is as the point's presence says.
pub record IsAsPresent (q : PointView) (row : List ℕ) : Type 0 where
  pub sure : q.presence ≡ Sure → IsFull row
  pub one : q.presence ≡ OneOf → HasOne row
  pub together : q.presence ≡ Together → IsFull row ⊎ IsEmpty row

-- What is asked of a tied point, and of one that comes after the one before it: the blocks of both are done once.
pub record IsKept (t : TableView) (n : ℕ) (q : PointView) : Type 0 where
  pub tied : q.tied ≡ true → q.presence ≢ Repeated
  pub after : q.after ≡ true → q.presence ≢ Repeated
  pub first : q.after ≡ true → 0 < n
  pub before : q.after ≡ true → (b : PointView) → slice_get t.points (n - 1) ≡ Some b → b.presence ≢ Repeated

-- Before this moment the block was done, by the row of a point that has this first block.
pub record WasBefore (before : List ℕ) (first x moment : ℕ) : Type 0 where
  pub low : first ≤ x
  pub there : slice_index before (x - first) ≢ 0
  pub earlier : slice_index before (x - first) < moment

-- Each block that was done was done earlier of the point before.
abbrev pub ComesAfter : List ℕ → ℕ → List ℕ → ℕ → Type 0
ComesAfter row first before before_first =
    (a : ℕ) → slice_index row a ≢ 0 → WasBefore before before_first (first + a) (slice_index row a)

-- The same, of the point of number n among those of the table, by their rows.
pub record FollowsRow (t : TableView) (rows : List (List ℕ)) (n : ℕ) (q : PointView) : Type 0 where
  pub kept : q.presence ≢ Repeated
  pub before : ℕ
  pub next : n ≡ before + 1
  pub point : PointView
  pub its : slice_get t.points before ≡ Some point
  pub row : List ℕ
  pub at : slice_get rows n ≡ Some row
  pub row_before : List ℕ
  pub at_before : slice_get rows before ≡ Some row_before
  pub after : ComesAfter row q.first row_before point.first

-- The clause on tied points, of one of them.
abbrev pub KeepsTiedOne : TableView → OrderView → ℕ → Type 0
KeepsTiedOne t o n =
    (i j k x y : ℕ) (p p' : PlacedView) (q q' : PointView) → i < j → j < k
    → StandsAt t o i p q → q.tied ≡ true → p.point ≡ n → HasBlock p x
    → StandsAt t o j p' q' → is_put q'.put ≡ true → q'.each ≡ false → HasBlock p' x → HasBlock p' y
    → IsDoneAt o n y k → ⊥

-- What is placed at this position isn't between two blocks of the row that it puts.
abbrev pub IsBeside : List ℕ → ℕ → PlacedView → ℕ → Type 0
IsBeside row first p position =
    (a b : ℕ) → HasBlock p (first + a) → HasBlock p (first + b) → slice_index row a ≢ 0 → slice_index row a ≤ position
    → position + 1 < slice_index row b → ⊥

-- What stands at this position isn't an entry between two blocks of the row.
abbrev pub StaysOut : TableView → OrderView → List ℕ → ℕ → ℕ → Type 0
StaysOut t o row first j =
    (p : PlacedView) (q : PointView) → StandsAt t o j p q → is_put q.put ≡ true → q.each ≡ false → IsBeside row first p j
