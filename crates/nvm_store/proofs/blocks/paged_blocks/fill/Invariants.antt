use Rattle.std.proofs.Common.{◌≡◌, ◌-◌, ◌≤◌}
use Rattle.nvm_store.specs.Inside.Gathered.{gathered}
use Rattle.nvm_store.specs.Inside.Pages.{ArePages}
use Rattle.nvm_store.specs.Inside.Rewrite.{IsRewritten}
use Rattle.nvm_store.specs.Inside.Source.{source_block}
use Rattle.nvm_store.proofs.blocks.paged_blocks.fill.Given as goal

-- Those so far are the source's.
abbrev pub invariant-loop-done : goal.invariant-loop-done
invariant-loop-done l = record {
  sound : ArePages l.pages l.numbers;
  size : l.pages.size ≡ l.initial.pages.size;
  few : l.done ≤ l.count;
  list : IsRewritten l.at l.done (source_block l.source) (gathered 8 l.initial.pages.list l.numbers) (gathered 8 l.pages.list l.numbers);
}

abbrev pub decreases-loop-done : goal.decreases-loop-done
decreases-loop-done l = l.count - l.done
