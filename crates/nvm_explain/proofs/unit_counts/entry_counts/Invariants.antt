use Rattle.std.proofs.Common.{◌≡◌, ◌++◌, drop, length, map}
use Rattle.nvm_explain.proofs.unit_counts.entry_counts.Given as goal

-- the counts so far and those of the units that are left are all
abbrev pub invariant-loop-history : goal.invariant-loop-history
invariant-loop-history l =
    l.counts.items ++ map (λ history. length history.items) (drop l.history-index l.units)
    ≡ map (λ history. length history.items) l.units
