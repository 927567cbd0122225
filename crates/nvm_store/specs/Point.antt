-- Points of a history, and what it is to rest on one (own).
use Rattle.std.specs.Prelude.{◌≡◌, ◌≤◌, ℕ, List, length, take, Option}
use Rattle.nvm_record.specs.declared.status.Statuses.{Statuses}
use Rattle.nvm_record.specs.Medium.{Medium}
use Rattle.nvm_record.specs.Step.{Operation, statuses_of, data_of}
use Rattle.nvm_store.specs.History.{replay_of}
use Rattle.nvm_store.specs.HistoryEntry.{HistoryEntry}

-- the medium at point n: the replay of the first n entries
abbrev pub point : ℕ → List HistoryEntry → ℕ → Medium
point size history n = replay_of size (take n history)

-- What was answered of the operation is what the step gives at point n, and n is at most the number of entries.
pub record RestsOn (block_size : ℕ) (history : List HistoryEntry) (n : ℕ) (op : Operation) (told : Statuses)
    (read : Option (List ℕ)) : Type 0 where
  pub within : n ≤ length history
  pub statuses : told ≡ statuses_of op (point block_size history n)
  pub payload : read ≡ data_of op (point block_size history n)
