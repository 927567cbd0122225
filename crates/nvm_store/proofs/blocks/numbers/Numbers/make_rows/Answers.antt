use Rattle.std.proofs.Common.{arith}
use Rattle.nvm_store.proofs.NumberTables.{length_numbers_in}
use Rattle.nvm_store.proofs.blocks.numbers.Numbers.make_rows.Goals as goal

pub overflow_add-to : goal.overflow_add-to
overflow_add-to c =
    let le = rw (← c.self.view_is) at c.requires in
    let len = length_numbers_in c.self.inside.top c.self.inside.table.items c.self.invariant in
    let few = c.self.invariant.few in
    omega (arith, le, len, few)

pub make_rows-requires-clause-to : goal.make_rows-requires-clause-to
make_rows-requires-clause-to c =
    let le = rw (← c.self.view_is) at c.requires in
    let len = length_numbers_in c.self.inside.top c.self.inside.table.items c.self.invariant in
    omega (arith, le, len)
