use Rattle.nvm_store.proofs.NumberTables.{looked_up, number_is, offset_there}
use Rattle.nvm_store.proofs.blocks.numbers.Numbers.at.Goals as goal

pub index-requires : goal.index-requires
index-requires c =
    rw c.self.inside.table.ok.0
    (offset_there c.self.inside.top c.self.inside.table.items c.self.invariant c.args.place (rw (← c.self.view_is) at c.requires))

pub index-requires-2 : goal.index-requires-2
index-requires-2 c =
    rw c.self.inside.table.ok.0
    (looked_up c.self.inside.top c.self.inside.table.items c.self.invariant c.args.place c.index.result.now (rw (← c.self.view_is) at c.requires)
    c.index.ensures).there

pub returns-clause-is : goal.returns-clause-is
returns-clause-is c =
    let found = looked_up c.self.inside.top c.self.inside.table.items c.self.invariant c.args.place c.index.result.now (rw (← c.self.view_is) at c.requires)
    c.index.ensures in
    rw (← c.self.view_is)
    (number_is c.self.inside.top c.self.inside.table.items c.args.place c.index.result.now found c.index-2.result.now c.index-2.ensures)
