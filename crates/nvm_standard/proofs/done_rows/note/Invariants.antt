use Rattle.std.proofs.Common.{◌≡◌, ℕ, ◌+◌, ◌<◌, ◌≤◌, length, slice_index}
use Rattle.nvm_standard.proofs.done_rows.note.Given as goal

abbrev pub invariant-loop-at : goal.invariant-loop-at
invariant-loop-at l =
    record {
      many : length l.row.items ≡ length l.fn.row.items;
      below : (a : ℕ) → a < l.start → slice_index l.row.items a ≡ slice_index l.fn.row.items a;
      above : (a : ℕ) → l.start + l.at ≤ a → slice_index l.row.items a ≡ slice_index l.fn.row.items a;
      free : (a : ℕ) → l.start ≤ a → a < l.start + l.at → slice_index l.fn.row.items a ≡ 0;
      noted : (a : ℕ) → l.start ≤ a → a < l.start + l.at → slice_index l.row.items a ≡ l.moment;
    }
