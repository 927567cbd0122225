use Rattle.std.proofs.Common.{◌≡◌, ◌++◌, drop}
use Rattle.std.specs.List.{flat_map}
use Rattle.nvm_evidence.specs.Named.{fact_points}
use Rattle.nvm_evidence.proofs.named.points_named.Given as goal

-- the numbers so far with those that the facts name that are left are all
abbrev pub invariant-loop-fact : goal.invariant-loop-fact
invariant-loop-fact l =
    l.numbers.items ++ flat_map fact_points (drop l.fact-index l.contradiction.facts.items)
    ≡ flat_map fact_points l.contradiction.facts.items
