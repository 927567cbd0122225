-- What one unit holds: the blocks of the LBAs from `first` on.
use Rattle.std.specs.Prelude.{◌≡◌, ℕ, ◌+◌, List, length}
use Rattle.nvm_record.specs.declared.block.Block.{Block}
use Rattle.nvm_record.specs.Lists.{IsAt}
use Rattle.nvm_record.specs.Medium.{Medium}
use Rattle.nvm_record.specs.Status.{IsSuccess}
use Rattle.nvm_record.specs.Step.{Operation, statuses_of}
use Rattle.nvm_store.specs.declared.place.Place.{Place}
use Rattle.nvm_store.specs.Place.{place_at, IsCovered}

-- The block size is in bytes.
pub record Contents : Type 0 where
  pub first : ℕ
  pub size : ℕ
  pub blocks : List Block

-- where they lie
abbrev pub place_of : Contents → Place
place_of u = place_at u.first (length u.blocks) u.size

-- The blocks are the medium's, each at its LBA.
abbrev pub Holds : Contents → Medium → Type 0
Holds u m = (i : ℕ) (block : Block) → IsAt u.blocks i block → m (u.first + i) ≡ block

-- The unit lies in exactly this place.
abbrev pub LiesAt : Place → Contents → Type 0
LiesAt place u = place_of u ≡ place

-- The unit has the same LBAs and the same block size as before.
abbrev pub StaysInPlace : Contents → Contents → Type 0
StaysInPlace old new = LiesAt (place_of old) new

-- The operation's range has a block and lies in the unit, and its data has exactly the range's blocks.
abbrev pub Covers : Contents → Operation → Type 0
Covers u op = IsCovered (place_of u) op

-- The operation succeeds on the unit's blocks.
abbrev pub Succeeds : Contents → Operation → Type 0
Succeeds u op = (m : Medium) → Holds u m → IsSuccess (statuses_of op m)
