use Rattle.std.proofs.Common.{take}
use Rattle.nvm_audit.specs.Inside.Claims.{AreClaims}
use Rattle.nvm_audit.proofs.claims.claims.Given as goal

abbrev pub invariant-loop-k : goal.invariant-loop-k
invariant-loop-k l = AreClaims l.history.items (take l.k l.parts.items) l.claimed.items
