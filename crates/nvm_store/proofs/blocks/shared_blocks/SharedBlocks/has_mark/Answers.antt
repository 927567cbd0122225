use Rattle.std.proofs.Common.{◌+◌, ◌-◌, Bool, ◌||◌, length, sym, ap, ◌∙◌, arith}
use Rattle.nvm_record.specs.Medium as medium
use Rattle.nvm_store.specs.Inside.Rewrite.{stretch_of}
use Rattle.nvm_store.proofs.Stretches.{next_stretch, has_mark-append}
use Rattle.nvm_store.proofs.blocks.shared_blocks.SharedBlocks.has_mark.Goals as goal

pub returns-then-has_mark : goal.returns-then-has_mark
returns-then-has_mark c =
    let stretch = c.stretch-stretch.result.now in
    let n = length stretch in
    let rest = stretch_of (c.loop-left.from + n) (c.loop-left.left - n) c.args.self.now in
    sym (c.loop-left.invariant.mark
    ∙ ap medium.has_mark (next_stretch c.args.self.now stretch c.loop-left.from c.loop-left.left n c.stretch-stretch.ensures.is c.stretch-stretch.ensures.few)
    ∙ has_mark-append stretch rest
    ∙ ap (λ (t : Bool). t || medium.has_mark rest) (sym c.has_mark.ensures ∙ c.if-has_mark.true))

pub loop-left-preserved : goal.loop-left-preserved
loop-left-preserved c =
    let stretch = c.stretch-stretch.result.now in
    let n = length stretch in
    let rest = stretch_of (c.loop-left.from + n) (c.loop-left.left - n) c.args.self.now in
    record {
      range = omega (arith, c.stretch-stretch.ensures.few, c.loop-left.invariant.range);
      mark =
          c.loop-left.invariant.mark
          ∙ ap medium.has_mark (next_stretch c.args.self.now stretch c.loop-left.from c.loop-left.left n c.stretch-stretch.ensures.is c.stretch-stretch.ensures.few)
          ∙ has_mark-append stretch rest
          ∙ ap (λ (t : Bool). t || medium.has_mark rest) (sym c.has_mark.ensures ∙ c.if-has_mark.false);
    }
