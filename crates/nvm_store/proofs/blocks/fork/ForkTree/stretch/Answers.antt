use Rattle.std.proofs.Common.{◌/◌, ◌%◌, sym}
use Rattle.nvm_store.specs.Inside.Tree.{parts_of}
use Rattle.nvm_store.proofs.Parts.{place_in, stretch_of_part, part_is, parts_count, within_part}
use Rattle.nvm_store.proofs.blocks.fork.ForkTree.stretch.Goals as goal

pub index-kid-requires : goal.index-kid-requires
index-kid-requires g c =
    let lies = place_in g.T.Tree.blocks c.self.inside.kids.items g.row.SPAN c.args.at c.self.invariant
    (rw (← c.self.view_is) at c.requires) in
    rw c.self.inside.kids.ok.0 lies.part

pub stretch-requires : goal.stretch-requires
stretch-requires g c =
    let kids = c.self.inside.kids.items in
    let span = g.row.SPAN in
    let lies = place_in g.T.Tree.blocks kids span c.args.at c.self.invariant (rw (← c.self.view_is) at c.requires) in
    rw c.deref.ensures (within_part g.T.Tree.blocks kids span c.args.at c.index-kid.result.now c.self.invariant lies (sym c.index-kid.ensures))

pub returns : goal.returns
returns g c =
    let kids = c.self.inside.kids.items in
    let span = g.row.SPAN in
    let lies = place_in g.T.Tree.blocks kids span c.args.at c.self.invariant (rw (← c.self.view_is) at c.requires) in
    let part = part_is g.T.Tree.blocks kids (c.args.at / span) c.index-kid.result.now c.index-kid.result.now lies.part (sym c.index-kid.ensures) in
    let stretch = rw (c.deref.ensures, ← part) at c.stretch.ensures in
    let count = rw (← parts_count g.T.Tree.blocks kids) at lies.part in
    rw (← c.self.view_is)
    (stretch_of_part span (parts_of g.T.Tree.blocks kids) (c.args.at / span) (c.args.at % span) c.args.at c.stretch.result.now
    c.self.invariant.spans count lies.within lies.is stretch)
