use Rattle.std.proofs.Common.{◌≡◌, ℕ, ◌<◌, get_or}
use Rattle.nvm_standard.proofs.bytes.is_filled.Given as goal

abbrev pub invariant-loop-found : goal.invariant-loop-found
invariant-loop-found l = (k : ℕ) → k < l.found-index → get_or l.bytes k 0 ≡ l.byte
