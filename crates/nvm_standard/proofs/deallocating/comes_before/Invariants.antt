use Rattle.std.proofs.Common.{ℕ, ◌+◌, ◌<◌, ◌≤◌, IfSome, slice_index}
use Rattle.nvm_standard.proofs.deallocating.comes_before.Given as goal

abbrev pub invariant-loop-at : goal.invariant-loop-at
invariant-loop-at l = (x : ℕ) → l.placed.first ≤ x → x < l.placed.first + l.at → IfSome l.over (λ over. slice_index l.latest.items x ≤ over)
