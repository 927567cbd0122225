use Rattle.std.proofs.lemmas.Result.{on_ok_weaker}
use Rattle.nvm_store.proofs.blocks.shared_blocks.SharedBlocks.fill.Goals as goal

pub returns-then-count-eq1-clause-ok : goal.returns-then-count-eq1-clause-ok
returns-then-count-eq1-clause-ok c =
    on_ok_weaker c.set.result (λ put. rw c.if-count-eq1.true put) c.set.ensures.ok
