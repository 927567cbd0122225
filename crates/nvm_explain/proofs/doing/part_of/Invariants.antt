use Rattle.std.proofs.Common.{◌≡◌, drop}
use Rattle.nvm_explain.specs.Doing.{first_part}
use Rattle.nvm_explain.proofs.doing.part_of.Given as goal

-- what is first of the parts that are left is first of all
abbrev pub invariant-loop-place : goal.invariant-loop-place
invariant-loop-place l =
    first_part l.unit l.done.statuses (drop l.place l.done.parts) ≡ first_part l.unit l.done.statuses l.done.parts
