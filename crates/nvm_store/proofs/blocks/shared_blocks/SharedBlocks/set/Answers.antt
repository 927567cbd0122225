use Rattle.std.proofs.Common.{ap, ◌∙◌, arith, take}
use Rattle.std.proofs.lemmas.List.{length-take-le}
use Rattle.std.proofs.lemmas.Result.{on_ok_weaker}
use Rattle.std.proofs.Math.Seq.{take-set-lt}
use Rattle.nvm_store.specs.Inside.Levels.{blocks_of}
use Rattle.nvm_store.specs.Inside.Source.{source_block}
use Rattle.nvm_store.proofs.Rewrites.{rewritten_more, rewritten_none}
use Rattle.nvm_store.proofs.blocks.shared_blocks.SharedBlocks.set.Goals as goal

pub returns-clause-ok : goal.returns-clause-ok
returns-clause-ok c =
    let all = blocks_of c.self.inside.levels in
    let count = c.self.inside.count in
    let lt = rw (← c.self.view_is, length-take-le count all c.self.invariant) at c.requires.range in
    let news = source_block c.args.source.now in
    let old = c.args.self.now in
    on_ok_weaker c.set.result
    (λ put. rewritten_more c.args.at 0 c.args.at news old old _ (rewritten_none c.args.at news old) (omega arith) (omega arith)
    (rw (← c.self.view_is) (ap (take count) put ∙ take-set-lt count all c.args.at (source_block c.args.source.now 0) lt)))
    c.set.ensures.ok
