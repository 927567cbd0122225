use Rattle.std.proofs.Common.{ℕ}
use Rattle.nvm_record.specs.Lists.{IsAt}
use Rattle.nvm_store.specs.HistoryEntry.{HistoryEntry}
use Rattle.nvm_c.specs.Inside.Gathering.{IsEntryOf}
use Rattle.nvm_c.proofs.histories.history_of.Given as goal

-- The entries so far are made of jobs.
abbrev pub invariant-loop-i : goal.invariant-loop-i
invariant-loop-i l = (k : ℕ) (entry : HistoryEntry) → IsAt l.history.items k entry → IsEntryOf l.geometry l.jobs.items l.workers l.unit entry
