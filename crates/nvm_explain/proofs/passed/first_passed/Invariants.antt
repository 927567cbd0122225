use Rattle.std.proofs.Common.{◌≡◌, drop}
use Rattle.nvm_explain.specs.Passed.{first_passed}
use Rattle.nvm_explain.proofs.passed.first_passed.Given as goal

-- what is first of the done jobs that are left is first of all
abbrev pub invariant-loop-done : goal.invariant-loop-done
invariant-loop-done l = first_passed l.spot (drop l.done-index l.work) ≡ first_passed l.spot l.work
