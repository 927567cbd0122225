-- Lists whose lengths fit the fields that a record file has for them.
use Rattle.std.specs.Prelude.{◌<◌, ◌≤◌, ◌^◌, List, All, length}
use Rattle.nvm_record.specs.Ranges.{most_ranges}
use Rattle.nvm_record.specs.Step.{Deed, writes, zeroes, uncorrectable, reads, compares, pairs, deallocates}
use Rattle.nvm_store.specs.HistoryEntry.{HistoryEntry}
use Rattle.nvm_audit.specs.RecordedJob.{RecordedJob}

-- A Deallocate has no more ranges than a command has.
abbrev pub IsShortDeed : Deed → Type 0
IsShortDeed (writes payload) = Unit {0}
IsShortDeed zeroes = Unit {0}
IsShortDeed uncorrectable = Unit {0}
IsShortDeed reads = Unit {0}
IsShortDeed (compares payload) = Unit {0}
IsShortDeed (pairs payload new) = Unit {0}
IsShortDeed (deallocates ranges) = length ranges ≤ most_ranges

-- The entries can be counted in four bytes, and so can the ranges of each, in two.
pub record IsShortHistory (history : List HistoryEntry) : Type 0 where
  pub few : length history < 2 ^ 32
  pub each : All (λ entry. IsShortDeed entry.operation.deed) history

-- The parts can be counted in two bytes.
abbrev pub IsShortDone : RecordedJob → Type 0
IsShortDone done = length done.parts < 2 ^ 16

-- The done jobs can be counted in four bytes, and so can the parts of each, in two.
pub record IsShortWork (work : List RecordedJob) : Type 0 where
  pub few : length work < 2 ^ 32
  pub each : All IsShortDone work
