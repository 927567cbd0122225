use Rattle.std.proofs.Common.{◌≡◌, ℕ, List, length, map}
use Rattle.nvm_record.specs.Lists.{IsAt}
use Rattle.nvm_store.specs.HistoryEntry.{HistoryEntry}
use Rattle.nvm_c.specs.Inside.Gathering.{IsHistoryOf}
use Rattle.nvm_c.proofs.histories.histories.Given as goal

-- There is a history for each unit so far.
abbrev pub invariant-loop-unit : goal.invariant-loop-unit
invariant-loop-unit l = record {
  count : length l.units.items ≡ l.unit;
  each : (k : ℕ) (history : List HistoryEntry) → IsAt (map (λ h. h.items) l.units.items) k history
      → IsHistoryOf l.geometry l.limit l.jobs.items (length l.done.items) k history;
}
