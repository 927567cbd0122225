use Rattle.std.proofs.Common.{ap, ◌∙◌, take}
use Rattle.std.proofs.lemmas.List.{take-replicate}
use Rattle.nvm_store.specs.Inside.Rewrite.{zero_block}
use Rattle.nvm_store.proofs.blocks.shared_blocks.SharedBlocks.zeroed.Goals as goal

pub returns : goal.returns
returns c =
    let made = c.in_ok-levels.ensures in
    ap (take c.args.count) made.are ∙ take-replicate c.args.count made.all (zero_block c.args.size) made.enough
