use Rattle.std.proofs.Common.{sym, ◌∙◌}
use Rattle.std.proofs.lemmas.Bool.{eqb-true}
use Rattle.nvm_store.proofs.GatheredStretches.{zero_paged}
use Rattle.nvm_store.proofs.blocks.paged_blocks.PagedBlocks.has_no_page.Goals as goal

pub returns : goal.returns
returns c =
    let own = c.self.inside in
    λ one. rw (← c.self.view_is)
    (zero_paged own.count own.pages own.numbers c.self.invariant (sym c.len.ensures ∙ eqb-true c.len.result 8 one))
