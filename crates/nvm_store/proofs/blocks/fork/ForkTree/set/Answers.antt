use Rattle.std.proofs.Common.{◌/◌, ◌%◌, ap, sym}
use Rattle.std.proofs.lemmas.Result.{on_ok_weaker, on_err_weaker}
use Rattle.std.specs.Arc.{arc_value}
use Rattle.nvm_store.specs.Inside.Source.{source_block}
use Rattle.nvm_store.specs.Inside.Tree.{joined_parts}
use Rattle.nvm_store.proofs.Parts.{place_in, within_part, set_in_kids, same_in_kids, fork-set, keeps_length}
use Rattle.nvm_store.proofs.blocks.fork.ForkTree.set.Goals as goal

pub index_mut-requires : goal.index_mut-requires
index_mut-requires g c =
    let lies = place_in g.T.Tree.blocks c.self.inside.kids.items g.row.SPAN c.args.at c.self.invariant
    (rw (← c.self.view_is) at c.requires.range) in
    rw c.self.inside.kids.ok.0 lies.part

pub set_in-requires-clause-range : goal.set_in-requires-clause-range
set_in-requires-clause-range g c =
    let kids = c.self.inside.kids.items in
    let span = g.row.SPAN in
    let lies = place_in g.T.Tree.blocks kids span c.args.at c.self.invariant (rw (← c.self.view_is) at c.requires.range) in
    within_part g.T.Tree.blocks kids span c.args.at c.index_mut.result.now c.self.invariant lies (sym c.index_mut.ensures.value)

pub invariant_of-self : goal.invariant_of-self
invariant_of-self g c =
    let blocks = g.T.Tree.blocks in
    let kids = c.self.inside.kids.items in
    let span = g.row.SPAN in
    let kid = c.index_mut.result.now in
    let lies = place_in blocks kids span c.args.at c.self.invariant (rw (← c.self.view_is) at c.requires.range) in
    fork-set blocks kids span c.args.at kid c.set_in.new.node c.self.invariant lies (sym c.index_mut.ensures.value)
    (keeps_length c.set_in.result (blocks (arc_value kid)) (blocks (arc_value c.set_in.new.node)) (c.args.at % span) (source_block c.args.source.now 0)
    c.set_in.ensures.ok c.set_in.ensures.err)

pub returns-clause-ok : goal.returns-clause-ok
returns-clause-ok g c =
    let kids = c.self.inside.kids.items in
    let span = g.row.SPAN in
    let lies = place_in g.T.Tree.blocks kids span c.args.at c.self.invariant (rw (← c.self.view_is) at c.requires.range) in
    on_ok_weaker c.set_in.result
    (λ changed. rw (← c.self.view_is)
    (set_in_kids g.T.Tree.blocks kids span c.args.at (source_block c.args.source.now 0) c.index_mut.result.now c.set_in.new.node c.self.invariant lies
    (sym c.index_mut.ensures.value) changed))
    c.set_in.ensures.ok

pub returns-clause-err : goal.returns-clause-err
returns-clause-err g c =
    let kids = c.self.inside.kids.items in
    let span = g.row.SPAN in
    let lies = place_in g.T.Tree.blocks kids span c.args.at c.self.invariant (rw (← c.self.view_is) at c.requires.range) in
    on_err_weaker c.set_in.result
    (λ same. rw (← c.self.view_is)
    (ap joined_parts (same_in_kids g.T.Tree.blocks kids (c.args.at / span) c.index_mut.result.now c.set_in.new.node lies.part
    (sym c.index_mut.ensures.value) same)))
    c.set_in.ensures.err
