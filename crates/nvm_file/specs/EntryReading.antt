-- An entry of a unit's history in a record file: the numbers of its pass and of its job, and what was done, by its kind.
use Rattle.std.specs.Prelude.{ℕ, ◌+◌, ◌*◌, ◌==◌, nat_lt, nat_le, List, take, drop, Bool, ◌&&◌, if◌then◌else◌, Result, Ok}
use Rattle.nvm_record.specs.declared.lba_range.LbaRange.{LbaRange}
use Rattle.nvm_record.specs.Ranges.{most_ranges}
use Rattle.nvm_record.specs.Step.{Operation}
use Rattle.nvm_geometry.specs.Namespace.{Namespace}
use Rattle.nvm_geometry.specs.Parts.{piece_in}
use Rattle.nvm_store.specs.declared.place.Place.{Place}
use Rattle.nvm_store.specs.HistoryEntry.{HistoryEntry}
use Rattle.nvm_store.specs.Operation.{write_operation, zeroes_operation, uncorrectable_operation, pair_operation, ranges_operation}
use Rattle.nvm_store.specs.Place.{place_at}
use Rattle.nvm_audit.specs.declared.version.Version.{Version}
use Rattle.nvm_audit.specs.declared.version.Version.TheVariants.{One, Two}
use Rattle.nvm_file.specs.declared.frame.Frame.{Frame}
use Rattle.nvm_file.specs.declared.record_fault.RecordFault.{RecordFault}
use Rattle.nvm_file.specs.Fields.{◌>>=◌, refused, bytes_at, number_at, number_in, number_below, items_at}

-- the range has a block, and lies in the unit
abbrev pub lies_in : Place → LbaRange → Bool
lies_in place range =
    nat_lt 0 range.blocks
    && (nat_le place.first range.first && nat_le (range.first + range.blocks) (place.first + place.blocks))

-- a first LBA and a number of blocks, all inside the unit
unfoldable pub range_in : ℕ → Place → List ℕ → Result (LbaRange × List ℕ) RecordFault
range_in total place bytes = do
  first ← number_at total 8 bytes
  blocks ← number_at total 4 first.1
  if lies_in place (record { first = first.0; blocks = blocks.0 })
      then Ok (record { first = first.0; blocks = blocks.0 }, blocks.1) else refused total first.1

-- a Write: its range, then its blocks
unfoldable pub write_at : ℕ → Place → List ℕ → Result (Operation × List ℕ) RecordFault
write_at total place bytes = do
  range ← range_in total place bytes
  payload ← bytes_at total (range.0.blocks * place.size) range.1
  Ok (write_operation range.0.first range.0.blocks payload.0, payload.1)

-- a Write Zeroes
unfoldable pub zeroes_at : ℕ → Place → List ℕ → Result (Operation × List ℕ) RecordFault
zeroes_at total place bytes = do
  range ← range_in total place bytes
  Ok (zeroes_operation range.0.first range.0.blocks, range.1)

-- a Write Uncorrectable
unfoldable pub uncorrectable_at : ℕ → Place → List ℕ → Result (Operation × List ℕ) RecordFault
uncorrectable_at total place bytes = do
  range ← range_in total place bytes
  Ok (uncorrectable_operation range.0.first range.0.blocks, range.1)

-- a fused pair: its range, then the blocks of the Compare and those of the Write, which are one field together
unfoldable pub fused_at : ℕ → Place → List ℕ → Result (Operation × List ℕ) RecordFault
fused_at total place bytes = do
  range ← range_in total place bytes
  payload ← bytes_at total (2 * (range.0.blocks * place.size)) range.1
  Ok (
    pair_operation range.0.first range.0.blocks (take (range.0.blocks * place.size) payload.0)
        (drop (range.0.blocks * place.size) payload.0),
    payload.1,
  )

-- a Deallocate on the unit: how many ranges it has, and each of them
unfoldable pub deallocate_at : ℕ → Place → List ℕ → Result (Operation × List ℕ) RecordFault
deallocate_at total place bytes = do
  count ← number_in total 2 1 most_ranges bytes
  ranges ← items_at (λ _. range_in total place) 0 count.0 count.1
  Ok (ranges_operation place.first place.blocks ranges.0, ranges.1)

-- the highest kind of an entry that the version has
abbrev pub last_kind : Version → ℕ
last_kind One = 4
last_kind Two = 5

-- what the kind says
abbrev pub operation_of_kind : ℕ → ℕ → Place → List ℕ → Result (Operation × List ℕ) RecordFault
operation_of_kind kind total place bytes =
    if kind == 1 then write_at total place bytes else
    if kind == 2 then zeroes_at total place bytes else
    if kind == 3 then uncorrectable_at total place bytes else
    if kind == 4 then fused_at total place bytes else deallocate_at total place bytes

-- what was done: its kind, and then by the kind
unfoldable pub operation_at : ℕ → Version → Place → List ℕ → Result (Operation × List ℕ) RecordFault
operation_at total version place bytes = do
  kind ← number_in total 1 1 (last_kind version) bytes
  operation_of_kind kind.0 total place kind.1

-- an entry in the unit that lies there
unfoldable pub entry_at : Frame → Place → List ℕ → Result (HistoryEntry × List ℕ) RecordFault
entry_at frame place bytes = do
  pass ← number_below frame.total 2 frame.workers bytes
  job ← number_below frame.total 4 frame.jobs pass.1
  operation ← operation_at frame.total frame.version place job.1
  Ok (record { pass = pass.0; job = job.0; operation = operation.0 }, operation.1)

-- where the unit lies: it is the piece of the whole namespace in it
unfoldable pub place_of : Namespace → ℕ → Place
place_of ns unit = place_at (piece_in ns 0 ns.nsze unit).first (piece_in ns 0 ns.nsze unit).blocks ns.block_size

-- the history of a unit: how many entries it has, and each of them
unfoldable pub history_at : Frame → ℕ → List ℕ → Result (List HistoryEntry × List ℕ) RecordFault
history_at frame unit bytes = do
  count ← number_in frame.total 4 0 frame.limit bytes
  items_at (λ _. entry_at frame (place_of frame.geometry unit)) 0 count.0 count.1
