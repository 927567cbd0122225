-- Points at their blocks (own).
use Rattle.std.specs.Prelude.{ℕ, if◌then◌else◌, Option, Some, None, slice_get}
use Rattle.nvm_standard.specs.PointView.{PointView, TableView}
use Rattle.nvm_standard.specs.declared.node.Node.{Node}

abbrev pub node : ℕ → ℕ → Node
node point block = record { point = point; block = block }

-- the block at which it is named
abbrev pub named_at : Option PointView → ℕ → ℕ
named_at None x = x
named_at (Some q) x = if q.each then x else q.first

-- the block at which the point of number n is named: its first, where it is done at one moment
unfoldable pub block_at : TableView → ℕ → ℕ → ℕ
block_at t n x = named_at (slice_get t.points n) x

-- the point of number n at this block
abbrev pub node_at : TableView → ℕ → ℕ → Node
node_at t n x = node n (block_at t n x)
