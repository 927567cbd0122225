use Rattle.std.proofs.Common.{◌≡◌, ℕ, ◌+◌, ◌<◌, ◌≤◌, length, slice_index}
use Rattle.nvm_standard.proofs.deallocating.raise.Given as goal

abbrev pub invariant-loop-at : goal.invariant-loop-at
invariant-loop-at l =
    record {
      kept : (x : ℕ) → slice_index l.fn.latest.items x ≤ slice_index l.latest.items x;
      raised : (x : ℕ) → l.placed.first ≤ x → x < l.placed.first + l.at → l.time ≤ slice_index l.latest.items x;
      least : (x m : ℕ) → slice_index l.fn.latest.items x ≤ m → (l.placed.first ≤ x → x < l.placed.first + l.at → l.time ≤ m)
          → slice_index l.latest.items x ≤ m;
      many : length l.latest.items ≡ length l.fn.latest.items;
    }
