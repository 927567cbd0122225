use Rattle.std.proofs.Common.{map}
use Rattle.nvm_c.specs.Inside.Gathering.{CanHoldWork}
use Rattle.nvm_c.proofs.Places.{AllBelow}
use Rattle.nvm_c.proofs.gathering.can_be_held.Given as goal

-- What each port so far did can be held.
abbrev pub invariant-loop-i : goal.invariant-loop-i
invariant-loop-i l = AllBelow (CanHoldWork l.geometry l.jobs.items) (map (λ did. did.items) l.done.items) l.i
