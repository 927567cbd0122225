use Rattle.std.proofs.Common.{◌≢◌, ℕ, ◌<◌, slice_index}
use Rattle.nvm_standard.proofs.presence.is_full.Given as goal

abbrev pub invariant-loop-place : goal.invariant-loop-place
invariant-loop-place l = (a : ℕ) → a < l.place → slice_index l.row.items a ≢ 0
