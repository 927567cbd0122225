-- When the commands began whose sure points have put a block, the latest of each block.
use Rattle.std.specs.Prelude.{◌≡◌, ℕ, ◌<◌, ◌≤◌, true, List, IfSome, length, slice_index}
use Rattle.nvm_standard.specs.PointView.{PointView, TableView}
use Rattle.nvm_standard.specs.declared.point.Presence.TheVariants.{Sure}
use Rattle.nvm_standard.specs.Clauses.{is_put}
use Rattle.nvm_standard.specs.OrderView.{OrderView, PlacedView}
use Rattle.nvm_standard.specs.Places.{StandsAt, HasBlock}

-- They are of the first k positions.
pub record AreLatest (t : TableView) (o : OrderView) (k : ℕ) (latest : List ℕ) : Type 0 where
  pub all : length latest ≡ t.nsze
  pub each : (i x : ℕ) (p : PlacedView) (q : PointView) → i < k → StandsAt t o i p q → q.presence ≡ Sure → is_put q.put ≡ true
      → HasBlock p x → q.from ≤ slice_index latest x

-- No time of theirs is later than need be.
abbrev pub AreLeast : TableView → OrderView → ℕ → List ℕ → Type 0
AreLeast t o k latest =
    (x m : ℕ)
    → ((i : ℕ) (p : PlacedView) (q : PointView) → i < k → StandsAt t o i p q → q.presence ≡ Sure → is_put q.put ≡ true
    → HasBlock p x → q.from ≤ m)
    → slice_index latest x ≤ m

-- The clause on Deallocates, of the positions before one.
abbrev pub KeepsDeallocatesTo : TableView → OrderView → ℕ → Type 0
KeepsDeallocatesTo t o k =
    (i j x : ℕ) (p p' : PlacedView) (q q' : PointView) → i < j → j < k
    → StandsAt t o i p q → q.presence ≡ Sure → is_put q.put ≡ true → HasBlock p x
    → StandsAt t o j p' q' → HasBlock p' x → IfSome q'.over (λ over. q.from ≤ over)
