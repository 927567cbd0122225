use Rattle.nvm_store.proofs.FlatLemmas.{fresh_pages}
use Rattle.nvm_store.proofs.blocks.flat_blocks.FlatBlocks.zeroed.Goals as goal

pub returns-clause-list : goal.returns-clause-list
returns-clause-list c =
    fresh_pages c.args.count c.args.size c.in_ok-from_elem-2.field-0.items c.in_ok-from_elem.field-0.items
    (c.in_ok-from_elem-2.ensures.items_if_clones_equal (λ y is. is)) (c.in_ok-from_elem.ensures.items_if_clones_equal (λ y is. is))
