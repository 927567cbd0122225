use Rattle.std.proofs.Common.{sym, ◌∙◌, arith}
use Rattle.nvm_store.proofs.GatheredStretches.{unmarked_paged}
use Rattle.nvm_store.proofs.blocks.paged_blocks.PagedBlocks.has_mark.Goals as goal

pub returns-then-not-may_have_mark : goal.returns-then-not-may_have_mark
returns-then-not-may_have_mark c =
    let own = c.self.inside in
    rw (← c.self.view_is)
    (sym (unmarked_paged own.count c.args.at c.args.count own.pages own.numbers (c.may_have_mark.ensures c.if-not-may_have_mark.true)))

pub returns-then-has_mark : goal.returns-then-has_mark
returns-then-has_mark c = sym (c.loop-left.invariant.mark ∙ c.stretch-stretch.ensures.parts.marked (sym c.has_mark.ensures ∙ c.if-has_mark.true))

pub loop-left-preserved : goal.loop-left-preserved
loop-left-preserved c =
    record {
      range = omega (arith, c.stretch-stretch.ensures.few, c.loop-left.invariant.range);
      mark = c.loop-left.invariant.mark ∙ c.stretch-stretch.ensures.parts.rest (sym c.has_mark.ensures ∙ c.if-has_mark.false);
    }
