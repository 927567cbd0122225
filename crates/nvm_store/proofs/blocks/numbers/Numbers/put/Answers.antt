use Rattle.std.proofs.Common.{ℕ, List, length, ◌<◌, sym, ap, ◌∙◌, subst, arith}
use Rattle.std.proofs.Math.ListN.{set}
use Rattle.nvm_store.proofs.NumberTables.{found, place_in, put_in}
use Rattle.nvm_store.proofs.blocks.numbers.Numbers.put.Goals as goal

pub own_row-requires-clause-at : goal.own_row-requires-clause-at
own_row-requires-clause-at c = (place_in c.self.inside.top c.self.inside.table.items c.self.invariant c.args.place (rw (← c.self.view_is) at c.requires)).part

pub overflow_add-row : goal.overflow_add-row
overflow_add-row c =
    let lt = subst (λ (l : List ℕ). c.args.place < length l) (sym c.own_row.ensures.same) (rw (← c.self.view_is) at c.requires) in
    let row = found c.self.inside.top c.own_row.new.table.items c.own_row.ensures.sound c.args.place c.in_ok-row.row lt c.in_ok-row.ensures.row.1 in
    let fits = row.fits in
    omega (arith, fits)

pub index_mut-requires : goal.index_mut-requires
index_mut-requires c =
    let lt = subst (λ (l : List ℕ). c.args.place < length l) (sym c.own_row.ensures.same) (rw (← c.self.view_is) at c.requires) in
    let row = found c.self.inside.top c.own_row.new.table.items c.own_row.ensures.sound c.args.place c.in_ok-row.row lt c.in_ok-row.ensures.row.1 in
    rw c.own_row.new.table.ok.0 row.there

pub invariant_of-self-2 : goal.invariant_of-self-2
invariant_of-self-2 c =
    let lt = subst (λ (l : List ℕ). c.args.place < length l) (sym c.own_row.ensures.same) (rw (← c.self.view_is) at c.requires) in
    let row = found c.self.inside.top c.own_row.new.table.items c.own_row.ensures.sound c.args.place c.in_ok-row.row lt c.in_ok-row.ensures.row.1 in
    (put_in c.self.inside.top c.own_row.new.table.items c.args.place c.in_ok-row.row row c.args.number c.in_ok-row.ensures.row.0).sound

pub returns-clause-ok : goal.returns-clause-ok
returns-clause-ok c =
    let lt = subst (λ (l : List ℕ). c.args.place < length l) (sym c.own_row.ensures.same) (rw (← c.self.view_is) at c.requires) in
    let row = found c.self.inside.top c.own_row.new.table.items c.own_row.ensures.sound c.args.place c.in_ok-row.row lt c.in_ok-row.ensures.row.1 in
    rw (← c.self.view_is)
    ((put_in c.self.inside.top c.own_row.new.table.items c.args.place c.in_ok-row.row row c.args.number c.in_ok-row.ensures.row.0).is
    ∙ ap (λ (l : List ℕ). set l c.args.place c.args.number) c.own_row.ensures.same)
