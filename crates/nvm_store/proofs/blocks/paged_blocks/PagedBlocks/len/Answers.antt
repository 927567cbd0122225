use Rattle.std.proofs.Common.{sym}
use Rattle.nvm_store.proofs.GatheredStretches.{length_paged}
use Rattle.nvm_store.proofs.blocks.paged_blocks.PagedBlocks.len.Goals as goal

pub returns : goal.returns
returns c = rw (← c.self.view_is) (sym (length_paged c.self.inside.count c.self.inside.pages c.self.inside.numbers c.self.invariant))
