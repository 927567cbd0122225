-- Which entry of a history changed some blocks last.
use Rattle.std.specs.Prelude.{ℕ, ◌+◌, if◌then◌else◌, List, [], ◌∷◌, Bool, Option, Some, None}
use Rattle.std.specs.List.{list_any, range_with_len}
use Rattle.std.specs.Option.{option_or}
use Rattle.nvm_record.specs.declared.lba_range.LbaRange.{LbaRange}
use Rattle.nvm_record.specs.Step.{Operation, reaches}
use Rattle.nvm_store.specs.HistoryEntry.{HistoryEntry}

-- The operation reaches one of the blocks.
abbrev pub reaches_one : LbaRange → Operation → Bool
reaches_one range op = list_any (reaches op) (range_with_len range.first range.blocks)

-- the last of these entries that changes one of the blocks, if one does, with its place; the first is at `place`
abbrev pub last_change_from : LbaRange → ℕ → List HistoryEntry → Option (ℕ × HistoryEntry)
last_change_from range place [] = None
last_change_from range place (entry ∷ entries) =
    option_or (last_change_from range (place + 1) entries) (if reaches_one range entry.operation then Some (place, entry) else None)

-- the last of a history's first entries that changes one of the blocks, if one does, with its place
abbrev pub last_change : LbaRange → List HistoryEntry → Option (ℕ × HistoryEntry)
last_change range entries = last_change_from range 0 entries
