use Rattle.std.proofs.Common.{List, subst, arith}
use Rattle.nvm_record.specs.declared.block.Block.{Block}
use Rattle.nvm_store.specs.Inside.Gathered.{gathered}
use Rattle.nvm_store.specs.Inside.Rewrite.{IsRewritten}
use Rattle.nvm_store.specs.Inside.Source.{source_block}
use Rattle.nvm_store.proofs.GatheredStretches.{counted_change, low_range}
use Rattle.nvm_store.proofs.blocks.paged_blocks.PagedBlocks.put.Goals as goal

pub overflow_add-end : goal.overflow_add-end
overflow_add-end c =
    let own = c.self.inside in
    let low = low_range own.count own.pages own.numbers c.args.at c.args.count c.self.invariant (rw (← c.self.view_is) at c.requires.range) in
    omega (arith, low)

pub overflow_add-end-2 : goal.overflow_add-end-2
overflow_add-end-2 c =
    let own = c.self.inside in
    let low = low_range own.count own.pages own.numbers c.args.at c.args.count c.self.invariant (rw (← c.self.view_is) at c.requires.range) in
    omega (arith, low)

pub returns-clause-ok : goal.returns-clause-ok
returns-clause-ok c =
    let at = c.args.at in
    let count = c.args.count in
    let news = source_block c.args.source.now in
    let range = rw (← c.self.view_is) at c.requires.range in
    let after = gathered 8 c.fill.new.pages.list c.make_pages.new.numbers in
    rw (← c.self.view_is)
    (counted_change c.self.inside.count c.self.inside.pages c.fill.new.pages c.self.inside.numbers c.make_pages.new.numbers at count news c.self.invariant range
    (subst (λ (l : List Block). IsRewritten at count news l after) c.make_pages.ensures.same c.fill.ensures.list))
