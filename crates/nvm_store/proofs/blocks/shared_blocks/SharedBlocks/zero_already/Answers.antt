use Rattle.std.proofs.Common.{length}
use Rattle.nvm_store.specs.Inside.Rewrite.{zero_block}
use Rattle.nvm_store.proofs.Stretches.{at_stretch_of_one}
use Rattle.nvm_store.proofs.blocks.shared_blocks.SharedBlocks.zero_already.Goals as goal

pub returns-then-are_kept_as_zero-clause-same : goal.returns-then-are_kept_as_zero-clause-same
returns-then-are_kept_as_zero-clause-same c =
    let stretch = c.stretch-stretch.result.now in
    λ i j lt.
    rw c.in-Zeroes.is
    (at_stretch_of_one c.args.self.now stretch c.args.from (length stretch) i (zero_block c.in-Zeroes.size) c.stretch-stretch.ensures.is
    c.if-are_kept_as_zero.ensures lt)
