use Rattle.std.proofs.Common.{◌≡◌, take}
use Rattle.nvm_c.proofs.work.copies.Given as goal

-- Those before are copied.
abbrev pub invariant-loop-i : goal.invariant-loop-i
invariant-loop-i l = l.all.items ≡ take l.i l.done.items
