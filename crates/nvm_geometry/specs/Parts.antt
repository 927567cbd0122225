-- Which units a command meets, and what it does in each. A unit's number never falls as the LBA rises, so
-- the LBAs of a range that lie in lower units are its first ones.
use Rattle.std.specs.Prelude.{◌≡◌, ◌==◌, ◌&&◌, ℕ, ◌+◌, ◌-◌, ◌*◌, ◌<◌, ◌≤◌, nat_lt, Bool, List, [], ◌∷◌, take, drop, map, filter, count_by}
use Rattle.std.specs.List.{range_with_len}
use Rattle.nvm_record.specs.Step.{Deed, Operation, writes, zeroes, uncorrectable, reads, compares, pairs, deallocates, is_about}
use Rattle.nvm_record.specs.Ranges.{cut_ranges}
use Rattle.nvm_geometry.specs.Namespace.{Namespace}
use Rattle.nvm_geometry.specs.Boundaries.{unit_number, units_of}
use Rattle.nvm_geometry.specs.declared.piece.Piece.{Piece}

-- how many LBAs of the range lie in units below this one
unfoldable pub blocks_below : Namespace → ℕ → ℕ → ℕ → ℕ
blocks_below ns first blocks unit = count_by (λ lba. nat_lt (unit_number ns lba) unit) (range_with_len first blocks)

-- how many LBAs of the range lie in the unit
unfoldable pub blocks_in : Namespace → ℕ → ℕ → ℕ → ℕ
blocks_in ns first blocks unit = count_by (λ lba. unit_number ns lba == unit) (range_with_len first blocks)

-- the units that pass the test, ascending
unfoldable pub units_where : Namespace → (ℕ → Bool) → List ℕ
units_where ns test = filter test (range_with_len 0 (units_of ns))

-- the units in which the range has an LBA, ascending
abbrev pub units_of_range : Namespace → ℕ → ℕ → List ℕ
units_of_range ns first blocks = units_where ns (λ unit. nat_lt 0 (blocks_in ns first blocks unit))

-- the LBAs of the range that lie in the unit
abbrev pub piece_in : Namespace → ℕ → ℕ → ℕ → Piece
piece_in ns first blocks unit =
    record { unit = unit; first = first + blocks_below ns first blocks unit; blocks = blocks_in ns first blocks unit }

-- one piece for each unit that the range meets, ascending
abbrev pub pieces_of : Namespace → ℕ → ℕ → List Piece
pieces_of ns first blocks = map (piece_in ns first blocks) (units_of_range ns first blocks)

-- the data of `blocks` blocks, after that of `skipped` blocks
abbrev pub data_part : ℕ → ℕ → ℕ → List ℕ → List ℕ
data_part size skipped blocks payload = take (blocks * size) (drop (skipped * size) payload)

-- The deed on exactly the `blocks` LBAs after the first `skipped` of those from `first`: with the data of exactly these, and
-- with its ranges cut to them.
abbrev pub deed_part : ℕ → ℕ → ℕ → ℕ → Deed → Deed
deed_part size first skipped blocks (writes payload) = writes (data_part size skipped blocks payload)
deed_part size first skipped blocks zeroes = zeroes
deed_part size first skipped blocks uncorrectable = uncorrectable
deed_part size first skipped blocks reads = reads
deed_part size first skipped blocks (compares payload) = compares (data_part size skipped blocks payload)
deed_part size first skipped blocks (pairs payload new) =
    pairs (data_part size skipped blocks payload) (data_part size skipped blocks new)
deed_part size first skipped blocks (deallocates ranges) = deallocates (cut_ranges (first + skipped) blocks ranges)

-- how many LBAs of the operation that its deed has to do with lie in the unit
unfoldable pub reached_in : Namespace → Operation → ℕ → ℕ
reached_in ns op unit =
    count_by (λ lba. is_about op.deed lba && unit_number ns lba == unit) (range_with_len op.first op.blocks)

-- The operation has an LBA in the unit with which its deed has to do.
abbrev pub meets : Namespace → Operation → ℕ → Bool
meets ns op unit = nat_lt 0 (reached_in ns op unit)

-- the units that an operation meets, ascending
abbrev pub units_met : Namespace → Operation → List ℕ
units_met ns op = units_where ns (λ unit. meets ns op unit)

-- The part of an operation in a unit: the operation on exactly those LBAs of its range that lie there,
-- with the data of exactly these, or its ranges cut to these.
abbrev pub part_in : Namespace → Operation → ℕ → Operation
part_in ns op unit =
    record {
      first = op.first + blocks_below ns op.first op.blocks unit;
      blocks = blocks_in ns op.first op.blocks unit;
      deed = deed_part ns.block_size op.first (blocks_below ns op.first op.blocks unit) (blocks_in ns op.first op.blocks unit) op.deed;
    }

-- The pieces follow one another from `first` on, and together have `blocks` blocks. None is empty.
abbrev pub AreInLine : ℕ → ℕ → List Piece → Type 0
AreInLine first blocks [] = blocks ≡ 0
AreInLine first blocks (p ∷ ps) =
    (p.first ≡ first) × (0 < p.blocks) × (p.blocks ≤ blocks) × AreInLine (first + p.blocks) (blocks - p.blocks) ps

-- All LBAs of the piece lie in its unit.
pub record IsInUnit (ns : Namespace) (p : Piece) : Type 0 where
  pub known : p.unit < units_of ns
  pub lies : (lba : ℕ) → p.first ≤ lba → lba < p.first + p.blocks → unit_number ns lba ≡ p.unit
