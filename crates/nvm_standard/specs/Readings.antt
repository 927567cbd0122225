-- Whose put a reader can have found in a block, by what is known (own). A block holds what the last point before put there, or what was
-- there at first.
use Rattle.std.specs.Prelude.{◌≡◌, ◌≢◌, ◌⊎◌, ℕ, ◌-◌, List, Some, slice_get}
use Rattle.nvm_record.specs.declared.block.Block.TheVariants.{Bytes}
use Rattle.nvm_standard.specs.PointView.{PointView, TableView, bytes}
use Rattle.nvm_standard.specs.declared.point.Presence.TheVariants.{Repeated}
use Rattle.nvm_standard.specs.Contents.{bytes_at}
use Rattle.nvm_standard.specs.Places.{IsOf}
use Rattle.nvm_standard.specs.Knowledge.{Knowledge}
use Rattle.nvm_standard.specs.Nodes.{node, node_at}
use Rattle.nvm_standard.specs.Serving.{CanServe, CanFindFirst, FindsThere, SurelyPuts}
use Rattle.nvm_standard.specs.Times.{ComesBefore}

-- The reader has the block, and does it at most once.
pub record IsReadingOf (t : TableView) (reader x : ℕ) (q : PointView) : Type 0 where
  pub its : slice_get t.points reader ≡ Some q
  pub block : IsOf q x
  pub once : q.presence ≢ Repeated

-- The other found bytes in the block that the reader, whose point is q, can't find there.
pub record FindsOther (t : TableView) (q : PointView) (x : ℕ) (other : PointView) : Type 0 where
  pub payload : List ℕ
  pub found : other.found ≡ bytes payload
  pub differs : FindsThere t q x (Bytes (bytes_at t.block_size payload (x - other.first))) → ⊥

-- The point of number n is there, and did so.
pub record FoundOther (t : TableView) (K : Knowledge) (q : PointView) (n x : ℕ) : Type 0 where
  pub point : PointView
  pub its : slice_get t.points n ≡ Some point
  pub block : IsOf point x
  pub there : K.there (node_at t n x)
  pub differs : FindsOther t q x point

-- What the reader, whose point is q, found in the block wasn't there before the point of number n, or not after it.
abbrev pub Divides : TableView → Knowledge → PointView → ℕ → ℕ → Type 0
Divides t K q n x = SurelyPuts t K n x ⊎ FoundOther t K q n x

-- It does so, and comes before the reader.
pub record DividesBefore (t : TableView) (K : Knowledge) (q : PointView) (reader x n : ℕ) : Type 0 where
  pub divides : Divides t K q n x
  pub before : ComesBefore t K n reader x

-- Some point does so, and comes after the earlier one.
pub record HasBetween (t : TableView) (K : Knowledge) (q : PointView) (earlier reader x : ℕ) : Type 0 where
  pub number : ℕ
  pub is : DividesBefore t K q reader x number
  pub after : ComesBefore t K earlier number x

-- The reader, whose point is q, found nothing that the point of number n put in the block: that point comes after it, or another divides
-- the two.
abbrev pub IsExcused : TableView → Knowledge → PointView → ℕ → ℕ → ℕ → Type 0
IsExcused t K q n reader x = ComesBefore t K reader n x ⊎ HasBetween t K q n reader x

-- The point of number n can serve the reader, whose point is q.
pub record IsServedBy (t : TableView) (q : PointView) (n x : ℕ) : Type 0 where
  pub point : PointView
  pub its : slice_get t.points n ≡ Some point
  pub block : IsOf point x
  pub serves : CanServe t point q x

-- Of all points but two, each that can serve the reader, whose point is q, is excused.
abbrev pub NoOtherServes : TableView → Knowledge → PointView → ℕ → ℕ → ℕ → Type 0
NoOtherServes t K q reader x writer = (n : ℕ) → IsServedBy t q n x → (n ≡ reader) ⊎ ((n ≡ writer) ⊎ IsExcused t K q n reader x)

-- It is known what was in the block at first, and the reader, whose point is q, can't find that.
pub record FindsNotFirst (t : TableView) (K : Knowledge) (q : PointView) (x : ℕ) : Type 0 where
  pub number : ℕ
  pub first : K.first (node number x)
  pub other : PointView
  pub its : slice_get t.points number ≡ Some other
  pub differs : FindsOther t q x other

-- What the reader, whose point is q, found isn't what was there at first.
abbrev pub WasPut : TableView → Knowledge → PointView → ℕ → ℕ → Type 0
WasPut t K q reader x = (CanFindFirst t q x → ⊥) ⊎ (FindsNotFirst t K q x ⊎ ((n : ℕ) × DividesBefore t K q reader x n))

-- What the reader found in the block was put there, and of the other points none but the writer can have put it.
pub record IsSource (t : TableView) (K : Knowledge) (writer reader x : ℕ) : Type 0 where
  pub point : PointView
  pub reads : IsReadingOf t reader x point
  pub was_put : WasPut t K point reader x
  pub only : NoOtherServes t K point reader x writer

-- None of the other points can have put what the reader found in the block.
pub record IsUnserved (t : TableView) (K : Knowledge) (reader x : ℕ) : Type 0 where
  pub point : PointView
  pub reads : IsReadingOf t reader x point
  pub none : NoOtherServes t K point reader x reader
