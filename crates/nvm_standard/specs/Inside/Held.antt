-- The contents that the walk keeps.
use Rattle.std.specs.Prelude.{◌≡◌, ℕ, ◌-◌, ◌<◌, nat_le, nat_lt, ◌&&◌, if◌then◌else◌, List, length, Some, slice_get}
use Rattle.nvm_record.specs.Medium.{Medium}
use Rattle.nvm_standard.specs.PointView.{PointView, TableView}
use Rattle.nvm_standard.specs.Contents.{blocks_before, put_at, put_over, MayFind}
use Rattle.nvm_standard.specs.OrderView.{ContentView, OrderView, PlacedView, block_of}
use Rattle.nvm_standard.specs.Places.{StandsAt, HasBlock}

-- They are those of the medium, of each block of the namespace.
pub record Holds (t : TableView) (held : List ContentView) (m : Medium) : Type 0 where
  pub all : length held ≡ t.nsze
  pub each : (x : ℕ) (c : ContentView) → slice_get held x ≡ Some c → block_of t.block_size c ≡ m x

-- the medium after the blocks below b of those that are placed
abbrev pub after_blocks : ℕ → PointView → PlacedView → ℕ → Medium → Medium
after_blocks size q p b m x =
    if nat_le p.first x && nat_lt x b then put_over (put_at size q.put p.value (x - q.first)) (m x) else m x

-- The clause on contents, of the positions before one.
abbrev pub FindsTo : TableView → OrderView → ℕ → Type 0
FindsTo t o k =
    (i : ℕ) (p : PlacedView) (q : PointView) (x : ℕ) → i < k → StandsAt t o i p q → HasBlock p x
    → MayFind t.block_size q.found (x - q.first) (blocks_before t o i x)
