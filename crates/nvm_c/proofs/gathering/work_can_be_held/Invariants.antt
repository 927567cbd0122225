use Rattle.nvm_c.specs.Inside.Gathering.{CanHold}
use Rattle.nvm_c.proofs.Places.{AllBelow}
use Rattle.nvm_c.proofs.gathering.work_can_be_held.Given as goal

-- Each job so far can be held.
abbrev pub invariant-loop-i : goal.invariant-loop-i
invariant-loop-i l = AllBelow (CanHold l.geometry l.jobs.items) l.work.items l.i
