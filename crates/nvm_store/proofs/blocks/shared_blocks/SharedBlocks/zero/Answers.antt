use Rattle.std.proofs.Common.{arith}
use Rattle.nvm_store.specs.Inside.Rewrite.{zero_block}
use Rattle.nvm_store.proofs.Rewrites.{rewritten_as_they_were}
use Rattle.nvm_store.proofs.blocks.shared_blocks.SharedBlocks.zero.Goals as goal

pub returns-then-zero_already-count-clause-ok : goal.returns-then-zero_already-count-clause-ok
returns-then-zero_already-count-clause-ok c =
    rewritten_as_they_were c.args.at c.args.count (λ x. zero_block c.args.size) c.args.self.now
    (λ i j lt. c.zero_already.ensures.same i j (omega (arith, lt, c.if-zero_already-count.true)))
