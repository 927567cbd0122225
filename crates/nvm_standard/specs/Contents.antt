-- What the blocks hold as an order goes on: docs/STANDARD.md, "An explanation".
use Rattle.std.specs.Prelude.{◌≡◌, ◌≢◌, ℕ, ◌+◌, ◌-◌, ◌*◌, nat_eq, nat_le, nat_lt, Bool, false, ◌&&◌, if◌then◌else◌, List, [], ◌∷◌, take, drop, replicate, Option, Some, None, slice_get}
use Rattle.nvm_record.specs.declared.block.Block.{Block}
use Rattle.nvm_record.specs.declared.block.Block.TheVariants.{Bytes, Uncorrectable}
use Rattle.nvm_record.specs.Medium.{Medium, zero_medium, is_marked}
use Rattle.nvm_standard.specs.PointView.{PointView, TableView, FoundView, nothing, bytes, any_bytes, other_than, PutView, leaves, puts, zeroes, mark, deallocates, anything}
use Rattle.nvm_standard.specs.OrderView.{OrderView, PlacedView, FirstView, ValueView, as_is, puts as puts_this, block_of}

-- the bytes of the block at place i of data
abbrev pub bytes_at : ℕ → List ℕ → ℕ → List ℕ
bytes_at size payload i = take size (drop (i * size) payload)

-- the block that is chosen, if one is
abbrev pub chosen : ℕ → ValueView → Option Block
chosen size as_is = None
chosen size (puts_this content) = Some (block_of size content)

-- what a point puts into the block at place i of its own
abbrev pub put_at : ℕ → PutView → ValueView → ℕ → Option Block
put_at size leaves value i = None
put_at size (puts payload) value i = Some (Bytes (bytes_at size payload i))
put_at size zeroes value i = Some (Bytes (replicate size 0))
put_at size mark value i = Some Uncorrectable
put_at size deallocates value i = chosen size value
put_at size anything value i = chosen size value

abbrev pub put_over : Option Block → Block → Block
put_over None old = old
put_over (Some new) old = new

abbrev pub has_block : PlacedView → ℕ → Bool
has_block p x = nat_le p.first x && nat_lt x (p.first + p.blocks)

abbrev pub after_point : ℕ → Option PointView → PlacedView → Medium → Medium
after_point size None p m x = m x
after_point size (Some q) p m x = if has_block p x then put_over (put_at size q.put p.value (x - q.first)) (m x) else m x

-- the blocks after it was done
unfoldable pub after : TableView → PlacedView → Medium → Medium
after t p m = after_point t.block_size (slice_get t.points p.point) p m

abbrev pub after_all : TableView → List PlacedView → Medium → Medium
after_all t [] m = m
after_all t (p ∷ ps) m = after_all t ps (after t p m)

-- with this content in this block
abbrev pub with_one : ℕ → FirstView → Medium → Medium
with_one size f m x = if nat_eq x f.block then block_of size f.content else m x

abbrev pub with_first : ℕ → List FirstView → Medium → Medium
with_first size [] m = m
with_first size (f ∷ fs) m = with_first size fs (with_one size f m)

-- what the blocks held at first
unfoldable pub first_blocks : TableView → OrderView → Medium
first_blocks t o = with_first t.block_size o.first (zero_medium t.block_size)

-- what the blocks hold as position k comes
unfoldable pub blocks_before : TableView → OrderView → ℕ → Medium
blocks_before t o k = after_all t (take k o.placed) (first_blocks t o)

-- The point may find this at place i of its blocks.
abbrev pub MayFind : ℕ → FoundView → ℕ → Block → Type 0
MayFind size nothing i block = Unit {0}
MayFind size (bytes payload) i block = block ≡ Bytes (bytes_at size payload i)
MayFind size any_bytes i block = is_marked block ≡ false
MayFind size (other_than payload) i block = (is_marked block ≡ false) × (block ≢ Bytes (bytes_at size payload i))
