use Rattle.std.proofs.Common.{◌≡◌, drop}
use Rattle.nvm_explain.specs.Ordering.{late_among}
use Rattle.nvm_explain.proofs.ordering.late_pair.Given as goal

-- what is found among the steps that are left is found among all
abbrev pub invariant-loop-late : goal.invariant-loop-late
invariant-loop-late l =
    late_among l.steps l.job l.spot (drop l.late-index l.steps) ≡ late_among l.steps l.job l.spot l.steps
