use Rattle.std.proofs.Common.{sym, ◌∙◌}
use Rattle.nvm_store.proofs.FlatLemmas.{length_flat}
use Rattle.nvm_store.proofs.blocks.flat_blocks.FlatBlocks.len.Goals as goal

pub returns : goal.returns
returns c =
    let own = c.self.inside in
    rw (← c.self.view_is) (c.len.ensures ∙ own.marks.ok.0 ∙ sym (length_flat own.marks.items own.size own.bytes.items))
