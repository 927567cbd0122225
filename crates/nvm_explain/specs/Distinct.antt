-- How many workers have entries in a unit.
use Rattle.std.specs.Prelude.{ℕ, List, length, map, nat_eq}
use Rattle.nvm_store.specs.HistoryEntry.{HistoryEntry}
use Rattle.nvm_explain.specs.Once.{once}

-- how many different workers made these entries
abbrev pub workers_in : List HistoryEntry → ℕ
workers_in history = length (once nat_eq (map (λ entry. entry.pass) history))
