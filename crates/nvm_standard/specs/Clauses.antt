-- The other clauses of docs/STANDARD.md, "An explanation", by positions of the order.
use Rattle.std.specs.Prelude.{◌≡◌, ℕ, ◌-◌, ◌<◌, ◌≤◌, Bool, true, false, IfSome}
use Rattle.nvm_standard.specs.PointView.{PointView, TableView, PutView, leaves, puts, zeroes, mark, deallocates, anything}
use Rattle.nvm_standard.specs.declared.point.Presence.TheVariants.{Sure}
use Rattle.nvm_standard.specs.Contents.{blocks_before, MayFind}
use Rattle.nvm_standard.specs.OrderView.{OrderView, PlacedView}
use Rattle.nvm_standard.specs.Places.{StandsAt, HasBlock, IsDoneAt}

-- No point comes before one whose time was over before its own began.
abbrev pub KeepsTime : TableView → OrderView → Type 0
KeepsTime t o =
    (i j : ℕ) (p p' : PlacedView) (q q' : PointView) → i < j → StandsAt t o i p q → StandsAt t o j p' q'
    → IfSome q'.until (λ until. q.from ≤ until)

-- Each point finds what the block holds as it comes.
abbrev pub FindsContents : TableView → OrderView → Type 0
FindsContents t o =
    (i : ℕ) (p : PlacedView) (q : PointView) (x : ℕ) → StandsAt t o i p q → HasBlock p x
    → MayFind t.block_size q.found (x - q.first) (blocks_before t o i x)

abbrev pub is_put : PutView → Bool
is_put leaves = false
is_put (puts payload) = true
is_put zeroes = true
is_put mark = true
is_put deallocates = true
is_put anything = true

-- Between two blocks of a tied point no other comes that puts both of them at one moment.
abbrev pub KeepsTied : TableView → OrderView → Type 0
KeepsTied t o =
    (i j k n x y : ℕ) (p p' : PlacedView) (q q' : PointView) → i < j → j < k
    → StandsAt t o i p q → q.tied ≡ true → p.point ≡ n → HasBlock p x
    → StandsAt t o j p' q' → is_put q'.put ≡ true → q'.each ≡ false → HasBlock p' x → HasBlock p' y
    → IsDoneAt o n y k → ⊥

-- A Deallocate comes at a block before what was surely put there by a command that began after it was over.
abbrev pub KeepsDeallocates : TableView → OrderView → Type 0
KeepsDeallocates t o =
    (i j x : ℕ) (p p' : PlacedView) (q q' : PointView) → i < j
    → StandsAt t o i p q → q.presence ≡ Sure → is_put q.put ≡ true → HasBlock p x
    → StandsAt t o j p' q' → HasBlock p' x → IfSome q'.over (λ over. q.from ≤ over)
