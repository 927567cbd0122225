use Rattle.std.proofs.Common.{◌/◌, ◌%◌, ap, sym}
use Rattle.std.specs.Arc.{arc_value}
use Rattle.nvm_record.specs.declared.block.Block.TheVariants.{Bytes}
use Rattle.nvm_store.specs.Inside.Tree.{joined_parts}
use Rattle.nvm_store.proofs.Parts.{place_in, within_part, set_in_kids, same_in_kids, fork-set, overwriting_keeps_length}
use Rattle.nvm_store.proofs.blocks.fork.ForkTree.overwrite.Goals as goal

pub index_mut-requires : goal.index_mut-requires
index_mut-requires g c =
    let lies = place_in g.T.Tree.blocks c.self.inside.kids.items g.row.SPAN c.args.at c.self.invariant
    (rw (← c.self.view_is) at c.requires) in
    rw c.self.inside.kids.ok.0 lies.part

pub overwrite_in-requires : goal.overwrite_in-requires
overwrite_in-requires g c =
    let kids = c.self.inside.kids.items in
    let lies = place_in g.T.Tree.blocks kids g.row.SPAN c.args.at c.self.invariant (rw (← c.self.view_is) at c.requires) in
    within_part g.T.Tree.blocks kids g.row.SPAN c.args.at c.index_mut.result.now c.self.invariant lies (sym c.index_mut.ensures.value)

pub invariant_of-self : goal.invariant_of-self
invariant_of-self g c =
    let blocks = g.T.Tree.blocks in
    let kids = c.self.inside.kids.items in
    let kid = c.index_mut.result.now in
    let lies = place_in blocks kids g.row.SPAN c.args.at c.self.invariant (rw (← c.self.view_is) at c.requires) in
    fork-set blocks kids g.row.SPAN c.args.at kid c.overwrite_in.new.node c.self.invariant lies (sym c.index_mut.ensures.value)
    (overwriting_keeps_length c.overwrite_in.result (blocks (arc_value kid)) (blocks (arc_value c.overwrite_in.new.node)) (c.args.at % g.row.SPAN)
    (Bytes c.args.bytes.now) c.overwrite_in.ensures.taken c.overwrite_in.ensures.left)

pub returns-clause-taken : goal.returns-clause-taken
returns-clause-taken g c taken =
    let kids = c.self.inside.kids.items in
    let lies = place_in g.T.Tree.blocks kids g.row.SPAN c.args.at c.self.invariant (rw (← c.self.view_is) at c.requires) in
    rw (← c.self.view_is)
    (set_in_kids g.T.Tree.blocks kids g.row.SPAN c.args.at (Bytes c.args.bytes.now) c.index_mut.result.now c.overwrite_in.new.node c.self.invariant lies
    (sym c.index_mut.ensures.value) (c.overwrite_in.ensures.taken taken))

pub returns-clause-left : goal.returns-clause-left
returns-clause-left g c left =
    let kids = c.self.inside.kids.items in
    let lies = place_in g.T.Tree.blocks kids g.row.SPAN c.args.at c.self.invariant (rw (← c.self.view_is) at c.requires) in
    rw (← c.self.view_is)
    (ap joined_parts (same_in_kids g.T.Tree.blocks kids (c.args.at / g.row.SPAN) c.index_mut.result.now c.overwrite_in.new.node lies.part
    (sym c.index_mut.ensures.value) (c.overwrite_in.ensures.left left)))
