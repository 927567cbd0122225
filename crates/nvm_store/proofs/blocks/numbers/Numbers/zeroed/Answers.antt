use Rattle.std.proofs.Common.{◌+◌, ◌/◌, sym, arith}
use Rattle.nvm_store.proofs.NumberTables.{first_numbers}
use Rattle.nvm_store.proofs.blocks.numbers.Numbers.zeroed.Goals as goal

pub invariant_of-result : goal.invariant_of-result
invariant_of-result c =
    (first_numbers (c.args.places / 64 + 1) c.in_ok-table.table.len c.in_ok-table.table.items c.resize.new.self.items (omega (arith, c.requires))
    (c.in_ok-table.ensures.items_if_clones_equal (λ y e. e)) (sym c.in_ok-table.ensures.len) c.in_ok-table.table.ok.0 c.in_ok-resize.ensures.items).sound

pub returns-clause-zeroes : goal.returns-clause-zeroes
returns-clause-zeroes c =
    (first_numbers (c.args.places / 64 + 1) c.in_ok-table.table.len c.in_ok-table.table.items c.resize.new.self.items (omega (arith, c.requires))
    (c.in_ok-table.ensures.items_if_clones_equal (λ y e. e)) (sym c.in_ok-table.ensures.len) c.in_ok-table.table.ok.0 c.in_ok-resize.ensures.items).is

pub returns-clause-enough : goal.returns-clause-enough
returns-clause-enough c =
    let len =
    (first_numbers (c.args.places / 64 + 1) c.in_ok-table.table.len c.in_ok-table.table.items c.resize.new.self.items (omega (arith, c.requires))
    (c.in_ok-table.ensures.items_if_clones_equal (λ y e. e)) (sym c.in_ok-table.ensures.len) c.in_ok-table.table.ok.0 c.in_ok-resize.ensures.items).len in
    omega (arith, len)

pub returns-clause-few : goal.returns-clause-few
returns-clause-few c =
    let len =
    (first_numbers (c.args.places / 64 + 1) c.in_ok-table.table.len c.in_ok-table.table.items c.resize.new.self.items (omega (arith, c.requires))
    (c.in_ok-table.ensures.items_if_clones_equal (λ y e. e)) (sym c.in_ok-table.ensures.len) c.in_ok-table.table.ok.0 c.in_ok-resize.ensures.items).len in
    omega (arith, len)
