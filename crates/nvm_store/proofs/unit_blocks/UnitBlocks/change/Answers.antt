use Rattle.std.proofs.Common.{◌+◌, ◌∙◌}
use Rattle.std.proofs.lemmas.Result.{on_ok_weaker}
use Rattle.nvm_record.specs.PayloadRef.{lent_bytes}
use Rattle.nvm_store.proofs.Comparisons.{pair_is_write}
use Rattle.nvm_store.proofs.unit_blocks.UnitBlocks.change.Goals as goal

pub returns-in-Pair-clause-step : goal.returns-in-Pair-clause-step
returns-in-Pair-clause-step c =
    let pair = c.in-Pair in
    on_ok_weaker c.write-in-Pair.result
    (λ step m held i block at.
    let success = rw pair.is at (c.requires.success m held) in
    let lba = c.write-in-Pair.new.self.first + i in
    rw pair.is
    (pair_is_write c.args.self.now.size pair.first pair.blocks (lent_bytes pair.compare) (lent_bytes pair.write) m lba success
    ∙ step m held i block at))
    c.write-in-Pair.ensures.step

pub returns-in-Deallocate-clause-step : goal.returns-in-Deallocate-clause-step
returns-in-Deallocate-clause-step c = on_ok_weaker c.deallocate.result (λ step m held. rw c.in-Deallocate.is (rw c.as_slice.ensures at (step m held))) c.deallocate.ensures.step
