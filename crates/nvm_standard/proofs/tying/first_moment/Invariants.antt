use Rattle.std.proofs.Common.{◌≢◌, ℕ, ◌<◌, ◌≤◌, slice_index}
use Rattle.nvm_standard.proofs.tying.first_moment.Given as goal

abbrev pub invariant-loop-place : goal.invariant-loop-place
invariant-loop-place l = (a : ℕ) → a < l.place → slice_index l.row.items a ≢ 0 → l.first ≤ slice_index l.row.items a
