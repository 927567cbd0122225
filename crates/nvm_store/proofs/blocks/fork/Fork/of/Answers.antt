use Rattle.std.proofs.Common.{◌≡◌, ◌*◌, List, replicate, ap, ◌∙◌, ℕ, arith}
use Rattle.std.specs.Arc.{arc_value}
use Rattle.nvm_record.specs.declared.block.Block.{Block}
use Rattle.nvm_store.specs.Inside.Tree.{joined_parts}
use Rattle.nvm_store.proofs.Parts.{spans-replicate, joined_parts-replicate}
use Rattle.nvm_store.proofs.blocks.fork.Fork.of.Goals as goal

pub invariant_of-new : goal.invariant_of-new
invariant_of-new g c =
    rw c.loop.invariant
    (record {
      some = c.requires.some;
      spans = spans-replicate c.loop.counter g.row.SPAN (g.T.Tree.blocks (arc_value c.args.node)) c.requires.span;
    })

pub returns : goal.returns
returns g c block is =
    let n = c.loop.counter in
    let all : n ≡ c.args.count = omega arith in
    c.in_ok-new.ensures.ok
    ∙ ap joined_parts (c.loop.invariant ∙ ap (λ (bs : List Block). replicate n bs) is)
    ∙ joined_parts-replicate n g.row.SPAN block
    ∙ ap (λ (k : ℕ). replicate (k * g.row.SPAN) block) all
