use Rattle.nvm_store.proofs.FlatLemmas.{none_at_all}
use Rattle.nvm_store.proofs.blocks.flat_blocks.FlatBlocks.may_have_mark.Goals as goal

pub returns : goal.returns
returns c =
    let own = c.self.inside in
    λ none. rw (← c.self.view_is) (none_at_all own.size own.marks.items own.bytes.items (c.self.invariant.none none))
