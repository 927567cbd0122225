use Rattle.std.proofs.Common.{◌≡◌}
use Rattle.nvm_c.proofs.sharing.share_reads.Given as goal

-- What Reads read is the same, shared or not.
abbrev pub invariant-loop-i : goal.invariant-loop-i
invariant-loop-i l = l.done ≡ l.fn.done
