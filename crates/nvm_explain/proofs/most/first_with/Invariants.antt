use Rattle.std.proofs.Common.{◌≡◌, ◌+◌, drop}
use Rattle.nvm_explain.specs.Most.{first_with}
use Rattle.nvm_explain.proofs.most.first_with.Given as goal

-- the first of the units that are left is the first of all
abbrev pub invariant-loop-unit : goal.invariant-loop-unit
invariant-loop-unit l = l.unit + first_with l.count (drop l.unit l.counts) ≡ first_with l.count l.counts
