-- The headline: what a run with many workers has in common with a block store that has one thread.
use Rattle.std.specs.Prelude.{ℕ, List}
use Rattle.nvm_record.specs.Lists.{IsAt}
use Rattle.nvm_record.specs.Medium.{zero_medium}
use Rattle.nvm_store.specs.HistoryEntry.{HistoryEntry}
use Rattle.nvm_store.specs.PlacedRun.{RunStep, IsRunFrom}
use Rattle.nvm_audit.specs.RecordedCalls.{IsPlacedRunOf}
use Rattle.nvm_audit.specs.RecordedPart.{parts_in_unit}
use Rattle.nvm_audit.specs.RecordView.{RecordView}

-- Each unit of the record is a one-thread block store. Its entries in their order, and between them, at its point, each part
-- that looked or whose pair failed, with each worker's parts in the worker's order, are a run of the step from zero bytes:
-- every entry succeeds, and each part has the answer that it got.
abbrev pub IsOneThreadRun : RecordView → Type 0
IsOneThreadRun r =
    (unit : ℕ) (history : List HistoryEntry) → IsAt r.units unit history
    → (steps : List RunStep) × IsPlacedRunOf r.namespace r.jobs history (parts_in_unit unit r.done) steps
    × IsRunFrom r.namespace.block_size (zero_medium r.namespace.block_size) steps
