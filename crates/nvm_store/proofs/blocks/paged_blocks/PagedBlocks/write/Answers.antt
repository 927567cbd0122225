use Rattle.std.proofs.Common.{arith}
use Rattle.nvm_record.specs.Step.{block_at}
use Rattle.nvm_store.proofs.GatheredStretches.{changed_page, counted_change, low_range}
use Rattle.nvm_store.proofs.blocks.paged_blocks.PagedBlocks.write.Goals as goal

pub overflow_add-at : goal.overflow_add-at
overflow_add-at c =
    let own = c.self.inside in
    let low = low_range own.count own.pages own.numbers c.args.at c.args.count c.self.invariant (rw (← c.self.view_is) at c.requires.range) in
    omega (arith, low)

pub invariant_of-self : goal.invariant_of-self
invariant_of-self c =
    let own = c.self.inside in
    let done = changed_page own.pages c.put.new.self own.numbers c.at-page.result c.args.at c.args.count (block_at own.pages.size c.args.payload.now)
    c.self.invariant.paged c.at-page.ensures.is c.if-page-gt0.true c.if-at-count-le-PAGE.true c.put.ensures.size c.put.ensures.list in
    record {
      paged = done.0;
      enough = c.self.invariant.enough;
      low = c.self.invariant.low;
    }

pub returns-then-at-count-le-PAGE-clause-ok : goal.returns-then-at-count-le-PAGE-clause-ok
returns-then-at-count-le-PAGE-clause-ok c =
    let own = c.self.inside in
    let news = block_at own.pages.size c.args.payload.now in
    let done = changed_page own.pages c.put.new.self own.numbers c.at-page.result c.args.at c.args.count news
    c.self.invariant.paged c.at-page.ensures.is c.if-page-gt0.true c.if-at-count-le-PAGE.true c.put.ensures.size c.put.ensures.list in
    let range = rw (← c.self.view_is) at c.requires.range in
    rw (← c.self.view_is)
    (counted_change own.count own.pages c.put.new.self own.numbers own.numbers c.args.at c.args.count news c.self.invariant range done.1)
