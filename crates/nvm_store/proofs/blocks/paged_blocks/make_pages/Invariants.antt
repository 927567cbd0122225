use Rattle.std.proofs.Common.{◌≡◌, ◌⊎◌, ℕ, ◌+◌, ◌<◌, ◌≤◌, length}
use Rattle.nvm_record.specs.Lists.{IsAt}
use Rattle.nvm_store.specs.Inside.Gathered.{gathered}
use Rattle.nvm_store.specs.Inside.Pages.{ArePages}
use Rattle.nvm_store.proofs.blocks.paged_blocks.make_pages.Given as goal

-- No more are missing than were looked at, and where none is, all of those have pages of their own.
abbrev pub invariant-loop-place : goal.invariant-loop-place
invariant-loop-place l = record {
  seen : l.missing + l.from ≤ l.place;
  few : l.missing ≤ l.to;
  own : l.missing ≡ 0 → (i n : ℕ) → l.from ≤ i → i < l.place → IsAt l.fn.numbers i n → 0 < n;
}

-- Those so far have pages of their own, nothing outside the range got one, and all blocks are as they were.
abbrev pub invariant-loop-place-2 : goal.invariant-loop-place-2
invariant-loop-place-2 l = record {
  sound : ArePages l.pages l.numbers;
  size : l.pages.size ≡ l.fn.pages.size;
  len : length l.numbers ≡ length l.fn.numbers;
  same : gathered 8 l.pages.list l.numbers ≡ gathered 8 l.fn.pages.list l.fn.numbers;
  own : (i n : ℕ) → l.from ≤ i → i < l.place → IsAt l.numbers i n → 0 < n;
  others : (i n : ℕ) → IsAt l.numbers i n → 0 < n → ((l.from ≤ i) × (i < l.to)) ⊎ IsAt l.fn.numbers i n;
}
