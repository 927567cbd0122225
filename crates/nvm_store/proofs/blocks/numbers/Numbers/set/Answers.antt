use Rattle.nvm_store.proofs.NumberTables.{looked_up, offset_there, set_in}
use Rattle.nvm_store.proofs.blocks.numbers.Numbers.set.Goals as goal

pub index-requires : goal.index-requires
index-requires c =
    rw c.self.inside.table.ok.0
    (offset_there c.self.inside.top c.self.inside.table.items c.self.invariant c.args.place (rw (← c.self.view_is) at c.requires.place))

pub index_mut-requires : goal.index_mut-requires
index_mut-requires c =
    rw c.self.inside.table.ok.0
    (looked_up c.self.inside.top c.self.inside.table.items c.self.invariant c.args.place c.index.result.now
    (rw (← c.self.view_is) at c.requires.place) c.index.ensures).there

pub invariant_of-self : goal.invariant_of-self
invariant_of-self c =
    let found = looked_up c.self.inside.top c.self.inside.table.items c.self.invariant c.args.place c.index.result.now
    (rw (← c.self.view_is) at c.requires.place) c.index.ensures in
    (set_in c.self.inside.top c.self.inside.table.items c.args.place c.index.result.now found c.args.number
    (rw (← c.self.view_is) at c.requires.own)).sound

pub returns : goal.returns
returns c =
    let found = looked_up c.self.inside.top c.self.inside.table.items c.self.invariant c.args.place c.index.result.now
    (rw (← c.self.view_is) at c.requires.place) c.index.ensures in
    rw (← c.self.view_is)
    (set_in c.self.inside.top c.self.inside.table.items c.args.place c.index.result.now found c.args.number
    (rw (← c.self.view_is) at c.requires.own)).is
