-- The clause on times, of the positions before one.
use Rattle.std.specs.Prelude.{ℕ, ◌<◌, ◌≤◌, IfSome}
use Rattle.nvm_standard.specs.PointView.{PointView, TableView}
use Rattle.nvm_standard.specs.OrderView.{OrderView, PlacedView}
use Rattle.nvm_standard.specs.Places.{StandsAt}

abbrev pub KeepsTimeTo : TableView → OrderView → ℕ → Type 0
KeepsTimeTo t o k =
    (i j : ℕ) (p p' : PlacedView) (q q' : PointView) → i < j → j < k → StandsAt t o i p q → StandsAt t o j p' q'
    → IfSome q'.until (λ until. q.from ≤ until)

-- No command of these positions began after this time.
abbrev pub BeganBy : TableView → OrderView → ℕ → ℕ → Type 0
BeganBy t o k time = (i : ℕ) (p : PlacedView) (q : PointView) → i < k → StandsAt t o i p q → q.from ≤ time
