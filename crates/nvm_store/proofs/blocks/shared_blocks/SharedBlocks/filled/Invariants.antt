use Rattle.std.proofs.Common.{◌-◌, ◌≤◌}
use Rattle.nvm_store.specs.Inside.Rewrite.{IsRewritten}
use Rattle.nvm_store.specs.Inside.Source.{source_block}
use Rattle.nvm_store.proofs.blocks.shared_blocks.SharedBlocks.filled.Given as goal

abbrev pub invariant-loop-done : goal.invariant-loop-done
invariant-loop-done l = record {
  few : l.done ≤ l.count;
  is : IsRewritten l.at l.done (source_block l.source) l.self l.after;
}

abbrev pub decreases-loop-done : goal.decreases-loop-done
decreases-loop-done l = l.count - l.done
