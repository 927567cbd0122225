-- An entry of a unit's history in a record file (own): the number of its pass, that of its job, its kind, and what was done.
use Rattle.std.specs.Prelude.{ℕ, List, [], ◌∷◌, ◌++◌, length}
use Rattle.std.specs.List.{flat_map}
use Rattle.byteorder.specs.Endian.{little_bytes}
use Rattle.nvm_record.specs.declared.lba_range.LbaRange.{LbaRange}
use Rattle.nvm_record.specs.Step.{Deed, writes, zeroes, uncorrectable, reads, compares, pairs, deallocates}
use Rattle.nvm_store.specs.HistoryEntry.{HistoryEntry}
use Rattle.nvm_file.specs.Counted.{counted}

-- The kind of an entry. A look is never an entry, so it has none.
abbrev pub kind_of : Deed → ℕ
kind_of (writes payload) = 1
kind_of zeroes = 2
kind_of uncorrectable = 3
kind_of reads = 0
kind_of (compares payload) = 0
kind_of (pairs payload new) = 4
kind_of (deallocates ranges) = 5

-- a first LBA, and a number of blocks
abbrev pub extent_bytes : ℕ → ℕ → List ℕ
extent_bytes first blocks = little_bytes 8 first ++ little_bytes 4 blocks

-- a Deallocate's range, which has no context attributes here
abbrev pub cut_bytes : LbaRange → List ℕ
cut_bytes range = extent_bytes range.first range.blocks

-- What stands behind the kind: the range of blocks with the data that goes with it, of a pair that to compare with before that
-- to write; or, of a Deallocate, how many ranges there are and each of them, in the order of the command.
abbrev pub change_bytes : ℕ → ℕ → Deed → List ℕ
change_bytes first blocks (writes payload) = extent_bytes first blocks ++ payload
change_bytes first blocks zeroes = extent_bytes first blocks
change_bytes first blocks uncorrectable = extent_bytes first blocks
change_bytes first blocks reads = []
change_bytes first blocks (compares payload) = []
change_bytes first blocks (pairs payload new) = extent_bytes first blocks ++ (payload ++ new)
change_bytes first blocks (deallocates ranges) = little_bytes 2 (length ranges) ++ flat_map cut_bytes ranges

-- what stands before what was done
abbrev pub entry_front : HistoryEntry → List ℕ
entry_front entry =
    little_bytes 2 entry.pass ++ (little_bytes 4 entry.job ++ (kind_of entry.operation.deed ∷ []))

abbrev pub entry_bytes : HistoryEntry → List ℕ
entry_bytes entry =
    entry_front entry ++ change_bytes entry.operation.first entry.operation.blocks entry.operation.deed

-- the history of a unit
abbrev pub history_bytes : List HistoryEntry → List ℕ
history_bytes history = counted entry_bytes history
