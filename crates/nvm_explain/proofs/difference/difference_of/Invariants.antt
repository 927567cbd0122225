use Rattle.std.proofs.Common.{◌≡◌, drop}
use Rattle.nvm_explain.specs.Difference.{difference_from}
use Rattle.nvm_explain.proofs.difference.difference_of.Given as goal

-- what is found in the bytes that are left is found in all
abbrev pub invariant-loop-at : goal.invariant-loop-at
invariant-loop-at l =
    difference_from l.first l.size l.at (drop l.at l.bytes) (drop l.at l.others)
    ≡ difference_from l.first l.size 0 l.bytes l.others
