use Rattle.std.proofs.Common.{◌≡◌, ◌-◌, ◌≤◌, length}
use Rattle.nvm_store.specs.Inside.Gathered.{gathered}
use Rattle.nvm_store.specs.Inside.Pages.{ArePages}
use Rattle.nvm_store.specs.Inside.Rewrite.{IsRewritten, zero_block}
use Rattle.nvm_store.proofs.blocks.paged_blocks.clear.Given as goal

-- Those so far are zeroes.
abbrev pub invariant-loop-done : goal.invariant-loop-done
invariant-loop-done l = record {
  sound : ArePages l.pages l.numbers;
  size : l.pages.size ≡ l.initial.pages.size;
  len : length l.numbers ≡ length l.initial.numbers;
  few : l.done ≤ l.count;
  list : IsRewritten l.at l.done (λ _. zero_block l.initial.pages.size) (gathered 8 l.initial.pages.list l.initial.numbers) (gathered 8 l.pages.list l.numbers);
}

abbrev pub decreases-loop-done : goal.decreases-loop-done
decreases-loop-done l = l.count - l.done
