use Rattle.nvm_store.specs.Inside.Rewrite.{zero_block}
use Rattle.nvm_store.proofs.GatheredStretches.{counted_change}
use Rattle.nvm_store.proofs.blocks.paged_blocks.PagedBlocks.zero.Goals as goal

pub returns-clause-list : goal.returns-clause-list
returns-clause-list c =
    let pages = c.self.inside.pages in
    let range = rw (← c.self.view_is) at c.requires in
    rw (← c.self.view_is)
    (counted_change c.self.inside.count pages c.clear.new.pages c.self.inside.numbers c.clear.new.numbers c.args.at c.args.count (λ _. zero_block pages.size)
    c.self.invariant range c.clear.ensures.list)
