-- What an order may place at all (own).
use Rattle.std.specs.Prelude.{◌≡◌, ℕ, ◌+◌, ◌<◌, ◌≤◌, Bool, true, false, List, [], length}
use Rattle.nvm_trace.specs.declared.start.Start.{Start}
use Rattle.nvm_trace.specs.declared.start.Start.TheVariants.{Zeroes as FromZeroes, Unknown}
use Rattle.nvm_standard.specs.PointView.{PointView, TableView, PutView, leaves, puts, zeroes, mark, deallocates, anything}
use Rattle.nvm_trace.specs.declared.deallocated.Deallocated.{Deallocated}
use Rattle.nvm_trace.specs.declared.deallocated.Deallocated.TheVariants.{Zeroes, Ones, Either}
use Rattle.nvm_standard.specs.OrderView.{PlacedView, FirstView, ContentView, zeroes as zero_bytes, ones, bytes, mark as marked, ValueView, as_is, puts as puts_this}

-- The content is one of a block of this size.
abbrev pub IsSized : ℕ → ContentView → Type 0
IsSized size zero_bytes = Unit {0}
IsSized size ones = Unit {0}
IsSized size (bytes b) = length b ≡ size
IsSized size marked = Unit {0}

-- what a deallocated block may read as
abbrev pub may_read : Deallocated → ContentView → Bool
may_read Zeroes zero_bytes = true
may_read Zeroes ones = false
may_read Zeroes (bytes b) = false
may_read Zeroes marked = false
may_read Ones zero_bytes = false
may_read Ones ones = true
may_read Ones (bytes b) = false
may_read Ones marked = false
may_read Either zero_bytes = true
may_read Either ones = true
may_read Either (bytes b) = false
may_read Either marked = false

abbrev pub IsAsIs : ValueView → Type 0
IsAsIs as_is = Unit {0}
IsAsIs (puts_this content) = ⊥

abbrev pub IsDeallocated : Deallocated → ValueView → Type 0
IsDeallocated how as_is = ⊥
IsDeallocated how (puts_this content) = may_read how content ≡ true

abbrev pub IsAnything : ℕ → ValueView → Type 0
IsAnything size as_is = ⊥
IsAnything size (puts_this content) = IsSized size content

-- The value is one that may be put.
abbrev pub IsAllowed : TableView → PutView → ValueView → Type 0
IsAllowed t leaves value = IsAsIs value
IsAllowed t (puts payload) value = IsAsIs value
IsAllowed t zeroes value = IsAsIs value
IsAllowed t mark value = IsAsIs value
IsAllowed t deallocates value = IsDeallocated t.deallocated value
IsAllowed t anything value = IsAnything t.block_size value

-- What is placed fits its point: it has a block, and only blocks of the point and of the namespace, all of them where the point
-- isn't done block by block; and what is put may be.
pub record FitsPoint (t : TableView) (p : PlacedView) (q : PointView) : Type 0 where
  pub some : 0 < p.blocks
  pub from : q.first ≤ p.first
  pub to : p.first + p.blocks ≤ q.first + q.blocks
  pub inside : p.first + p.blocks ≤ t.nsze
  pub whole : q.each ≡ false → p.blocks ≡ q.blocks
  pub value : IsAllowed t q.put p.value

-- What blocks held at first is said only where nobody knew.
abbrev pub MayBegin : Start → List FirstView → Type 0
MayBegin FromZeroes firsts = firsts ≡ []
MayBegin Unknown firsts = Unit {0}

pub record FitsFirst (t : TableView) (f : FirstView) : Type 0 where
  pub inside : f.block < t.nsze
  pub sized : IsSized t.block_size f.content
