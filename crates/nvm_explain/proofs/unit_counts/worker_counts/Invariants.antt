use Rattle.std.proofs.Common.{◌≡◌, ◌++◌, drop, map}
use Rattle.nvm_explain.specs.Distinct.{workers_in}
use Rattle.nvm_explain.proofs.unit_counts.worker_counts.Given as goal

-- the counts so far and those of the units that are left are all
abbrev pub invariant-loop-history : goal.invariant-loop-history
invariant-loop-history l =
    l.counts.items ++ map (λ history. workers_in history.items) (drop l.history-index l.units)
    ≡ map (λ history. workers_in history.items) l.units
