use Rattle.std.proofs.Common.{ap, ◌∙◌, arith, take}
use Rattle.std.proofs.lemmas.List.{length-take-le}
use Rattle.std.proofs.Math.Seq.{take-set-lt}
use Rattle.nvm_record.specs.declared.block.Block.TheVariants.{Bytes}
use Rattle.nvm_store.specs.Inside.Levels.{blocks_of}
use Rattle.nvm_store.proofs.Rewrites.{rewritten_more, rewritten_none}
use Rattle.nvm_store.proofs.blocks.shared_blocks.SharedBlocks.overwrite.Goals as goal

pub returns-clause-taken : goal.returns-clause-taken
returns-clause-taken c taken =
    let all = blocks_of c.self.inside.levels in
    let count = c.self.inside.count in
    let lt = rw (← c.self.view_is, length-take-le count all c.self.invariant) at c.requires in
    let block = Bytes c.args.bytes.now in
    let old = c.args.self.now in
    rewritten_more c.args.at 0 c.args.at (λ _. block) old old _ (rewritten_none c.args.at (λ _. block) old) (omega arith) (omega arith)
    (rw (← c.self.view_is) (ap (take count) (c.overwrite.ensures.taken taken) ∙ take-set-lt count all c.args.at block lt))
