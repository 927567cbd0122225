use Rattle.std.proofs.Common.{◌≡◌, ◌*◌, ◌≤◌, length, map, take}
use Rattle.std.specs.List.{sum_by}
use Rattle.nvm_audit.specs.Inside.Occurrences.{most_entries}
use Rattle.nvm_audit.proofs.counts.changes.Given as goal

abbrev pub invariant-loop-history : goal.invariant-loop-history
invariant-loop-history l = record {
  is : l.changes ≡ sum_by (λ history. length history) (take l.history-index (map (λ history. history.items) l.units.items));
  few : l.changes ≤ l.history-index * most_entries;
}
