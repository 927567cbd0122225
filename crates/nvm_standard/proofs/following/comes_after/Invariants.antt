use Rattle.std.proofs.Common.{◌≢◌, ℕ, ◌+◌, ◌<◌, slice_index}
use Rattle.nvm_standard.specs.Inside.Right.{WasBefore}
use Rattle.nvm_standard.proofs.following.comes_after.Given as goal

abbrev pub invariant-loop-place : goal.invariant-loop-place
invariant-loop-place l =
    (a : ℕ) → a < l.place → slice_index l.row.items a ≢ 0 → WasBefore l.before.items l.before_first (l.first + a) (slice_index l.row.items a)
