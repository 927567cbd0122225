use Rattle.std.proofs.Common.{◌≡◌, ◌++◌, drop}
use Rattle.nvm_standard.specs.PointView.{seen_table}
use Rattle.nvm_evidence.specs.Named.{commands_at}
use Rattle.nvm_evidence.proofs.named.commands_at.Given as goal

-- the commands so far with those of the numbers that are left are all
abbrev pub invariant-loop-number : goal.invariant-loop-number
invariant-loop-number l =
    l.commands.items ++ commands_at (seen_table l.points) (drop l.number-index l.numbers.items)
    ≡ commands_at (seen_table l.points) l.numbers.items
