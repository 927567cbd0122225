-- The rows of the table of docs/STANDARD.md, "What a command does": the points of a command by what its status says.
use Rattle.std.specs.Prelude.{ℕ, ◌-◌, nat_lt, Bool, true, false, not, List, [], ◌∷◌, ◌++◌, map, if◌then◌else◌, Option, None}
use Rattle.nvm_geometry.specs.Namespace.{Namespace}
use Rattle.nvm_geometry.specs.Parts.{data_part, pieces_of}
use Rattle.nvm_geometry.specs.declared.piece.Piece.{Piece}
use Rattle.nvm_standard.specs.PointView.{PointView, FoundView, nothing, bytes, any_bytes, other_than, PutView, leaves, puts, deallocates, anything}
use Rattle.nvm_standard.specs.Runs.{run}
use Rattle.nvm_standard.specs.declared.doer.Doer.{Doer}
use Rattle.nvm_standard.specs.declared.point.Presence.TheVariants.{Sure, Optional, OneOf, Together, Repeated}
use Rattle.nvm_standard.specs.declared.profile.Held.{Held}
use Rattle.nvm_standard.specs.declared.profile.Held.TheVariants.{Atomic, AtomicAll, Whole, ByBlocks}
use Rattle.nvm_standard.specs.declared.run.Run.{Run}
use Rattle.nvm_standard.specs.declared.told.Told.{Told}
use Rattle.nvm_standard.specs.declared.told.Told.TheVariants.{Done, ByHost, Before, Error}

-- For each block of the run one point, sure, between the command's beginning and its end. It does nothing yet.
abbrev pub for_each : Doer → Run → PointView
for_each d r =
    record {
      command = d.command;
      first = r.first;
      blocks = r.blocks;
      each = true;
      found = nothing;
      put = leaves;
      presence = Sure;
      after = false;
      tied = false;
      from = d.began;
      until = d.ended;
      over = None;
    }

-- the point, where it has a block
abbrev pub where_some : PointView → List PointView
where_some p = if nat_lt 0 p.blocks then p ∷ [] else []

-- Write, Write Zeroes and Write Uncorrectable; `entry`: all blocks are put at one moment
unfoldable pub write_row : Doer → Run → PutView → Bool → Told → List PointView
write_row d r put entry Done = where_some (record (for_each d r) { put = put; each = not entry })
write_row d r put entry Before = []
write_row d r put entry Error = where_some (record (for_each d r) { put = put; presence = Optional })
write_row d r put entry ByHost = where_some (record (for_each d r) { put = put; presence = Optional; until = None })

-- of what is found, that of the blocks after the first `skipped` ones
abbrev pub found_part : ℕ → ℕ → ℕ → FoundView → FoundView
found_part size skipped blocks nothing = nothing
found_part size skipped blocks (bytes payload) = bytes (data_part size skipped blocks payload)
found_part size skipped blocks any_bytes = any_bytes
found_part size skipped blocks (other_than payload) = other_than (data_part size skipped blocks payload)

-- what is found in one unit, at one moment
abbrev pub find_in_unit : ℕ → Doer → ℕ → FoundView → Piece → PointView
find_in_unit size d first found p =
    record (for_each d (run p.first p.blocks)) { found = found_part size (p.first - first) p.blocks found; each = false }

abbrev pub is_whole : Held → Bool
is_whole Atomic = false
is_whole AtomicAll = false
is_whole Whole = true
is_whole ByBlocks = false

-- A Read or a Compare that ended 0/00: for each block one point, or for each unit.
unfoldable pub find_row : Namespace → Held → Bool → Doer → Run → FoundView → List PointView
find_row ns held tied d r found =
    if is_whole held then
    (if nat_lt 0 r.blocks then map (find_in_unit ns.block_size d r.first found) (pieces_of ns r.first r.blocks) else [])
    else where_some (record (for_each d r) { found = found; tied = tied })

-- A Compare that ended 2/85, of which all blocks exist.
unfoldable pub differ_row : Doer → Run → List ℕ → List PointView
differ_row d r payload = where_some (record (for_each d r) { found = other_than payload; presence = OneOf })

-- One range of a Deallocate that was over at this time, if it ever was.
abbrev pub deallocate_row : Doer → Option ℕ → Run → List PointView
deallocate_row d over r =
    where_some (record (for_each d r) { put = deallocates; presence = Optional; until = None; over = over })

-- An opcode of which it isn't known what it does.
unfoldable pub unknown_row : Doer → Run → Option ℕ → List PointView
unknown_row d r until = where_some (record (for_each d r) { put = anything; presence = Repeated; until = until })

-- the points of a pair's Compare, and of its Write
abbrev pub compared : Doer → Run → List ℕ → PointView
compared d r payload = record (for_each d r) { found = bytes payload }

abbrev pub written : Doer → Run → List ℕ → PointView
written d r payload = record (for_each d r) { put = puts payload; after = true }

-- a pair that was done in full
unfoldable pub pair_row : Doer → Run → Bool → List ℕ → List ℕ → List PointView
pair_row d r entry payload new =
    if entry then where_some (record (for_each d r) { found = bytes payload; put = puts new; each = false })
    else where_some (compared d r payload) ++ where_some (written d r new)

-- a pair whose Write may have been done: its points, by what the Write's status says
abbrev pub open_write_row : Doer → Run → List ℕ → Told → List PointView
open_write_row d r new Done = where_some (written d r new)
open_write_row d r new Before = []
open_write_row d r new Error = where_some (record (written d r new) { presence = Optional })
open_write_row d r new ByHost = where_some (record (written d r new) { presence = Optional; until = None })

-- a pair of which the comparison held
unfoldable pub held_row : Doer → Run → List ℕ → List ℕ → Told → List PointView
held_row d r payload new second = where_some (compared d r payload) ++ open_write_row d r new second

-- a pair of which nothing is known
unfoldable pub open_row : Doer → Run → List ℕ → List ℕ → Option ℕ → List PointView
open_row d r payload new until =
    where_some (record (compared d r payload) { presence = Together; until = until })
    ++ where_some (record (written d r new) { presence = Optional; until = until })
