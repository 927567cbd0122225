-- What points may put in a block, beside what a reader may find there (own).
use Rattle.std.specs.Prelude.{◌≡◌, ℕ, ◌-◌, true, Some, slice_get}
use Rattle.nvm_record.specs.declared.block.Block.{Block}
use Rattle.nvm_record.specs.Medium.{zero_medium}
use Rattle.nvm_trace.specs.declared.start.Start.{Start}
use Rattle.nvm_trace.specs.declared.start.Start.TheVariants.{Zeroes, Unknown}
use Rattle.nvm_standard.specs.PointView.{PointView, TableView}
use Rattle.nvm_standard.specs.Clauses.{is_put}
use Rattle.nvm_standard.specs.Contents.{put_at, MayFind}
use Rattle.nvm_standard.specs.Fits.{IsAllowed}
use Rattle.nvm_standard.specs.OrderView.{ValueView}
use Rattle.nvm_standard.specs.Places.{IsOf}
use Rattle.nvm_standard.specs.Knowledge.{Knowledge}
use Rattle.nvm_standard.specs.Nodes.{node_at}

-- the reader may find this at the block
abbrev pub FindsThere : TableView → PointView → ℕ → Block → Type 0
FindsThere t reader x block = MayFind t.block_size reader.found (x - reader.first) block

-- Something that the writer may put in the block is what the reader may find there.
pub record CanServe (t : TableView) (writer reader : PointView) (x : ℕ) : Type 0 where
  pub value : ValueView
  pub allowed : IsAllowed t writer.put value
  pub block : Block
  pub puts : put_at t.block_size writer.put value (x - writer.first) ≡ Some block
  pub finds : FindsThere t reader x block

-- The point of number n is there, and puts the block.
pub record SurelyPuts (t : TableView) (K : Knowledge) (n x : ℕ) : Type 0 where
  pub point : PointView
  pub its : slice_get t.points n ≡ Some point
  pub puts : is_put point.put ≡ true
  pub block : IsOf point x
  pub there : K.there (node_at t n x)

abbrev pub CanFindFrom : Start → TableView → PointView → ℕ → Type 0
CanFindFrom Zeroes t reader x = FindsThere t reader x (zero_medium t.block_size x)
CanFindFrom Unknown t reader x = Unit {0}

-- The reader may find in the block what was there at first.
abbrev pub CanFindFirst : TableView → PointView → ℕ → Type 0
CanFindFirst t reader x = CanFindFrom t.start t reader x
