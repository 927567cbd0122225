-- Where a unit lies in the namespace, and which operations lie there.
use Rattle.std.specs.Prelude.{ℕ, ◌+◌, ◌*◌, ◌<◌, ◌≤◌}
use Rattle.nvm_record.specs.Step.{HasData, HasRangesWithin, Operation}
use Rattle.nvm_store.specs.declared.place.Place.{Place}

-- the place of `blocks` blocks of this size in bytes, from this LBA on
abbrev pub place_at : ℕ → ℕ → ℕ → Place
place_at first blocks size = record { first = first; blocks = blocks; size = size }

-- The `blocks` LBAs from `first` are at least one, and lie in the place.
pub record IsWithin (place : Place) (first blocks : ℕ) : Type 0 where
  pub some : 0 < blocks
  pub above : place.first ≤ first
  pub below : first + blocks ≤ place.first + place.blocks

-- The operation's range has a block and lies in the place, its data has exactly the range's blocks, and its ranges, where it
-- is a Deallocate, are some and lie in the range.
pub record IsCovered (place : Place) (op : Operation) : Type 0 where
  pub range : IsWithin place op.first op.blocks
  pub payload : HasData (op.blocks * place.size) op.deed
  pub ranges : HasRangesWithin op.first op.blocks op.deed
