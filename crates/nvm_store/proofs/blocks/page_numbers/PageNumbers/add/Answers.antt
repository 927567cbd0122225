use Rattle.std.proofs.Common.{◌≡◌, suc, arith}
use Rattle.nvm_store.specs.Inside.Gathered.{named}
use Rattle.nvm_store.proofs.Gathering.{named_lt}
use Rattle.nvm_store.proofs.Numbering.{one_owner_more}
use Rattle.nvm_store.proofs.Rewrites.{at_below}
use Rattle.nvm_store.proofs.blocks.page_numbers.PageNumbers.add.Goals as goal

pub overflow_cast-number : goal.overflow_cast-number
overflow_cast-number c =
    let numbers = c.self.inside.numbers in
    let lt = named_lt numbers c.args.place (rw (← c.self.view_is) at c.requires) in
    let count = c.self.invariant.count in
    let few = c.self.invariant.few in
    omega (arith, lt, count, few, c.len-number.ensures)

pub put-requires : goal.put-requires
put-requires c = at_below c.self.inside.numbers c.args.place 0 (rw (← c.self.view_is) at c.requires)

pub overflow_cast-place : goal.overflow_cast-place
overflow_cast-place c =
    let lt = at_below c.self.inside.numbers c.args.place 0 (rw (← c.self.view_is) at c.requires) in
    let few = c.self.invariant.few in
    omega (arith, lt, few)

pub invariant_of-self-2 : goal.invariant_of-self-2
invariant_of-self-2 c =
    let numbers = c.self.inside.numbers in
    let owners = c.self.inside.owners.items in
    let are = one_owner_more owners numbers c.args.place c.self.invariant (rw (← c.self.view_is) at c.requires) in
    let count = c.self.invariant.count in
    let same : c.len-number.result ≡ suc (named numbers) = omega (arith, count, c.len-number.ensures) in
    rw (c.push_reserved.ensures.items, c.reserve.ensures.items, c.in_ok-put.ensures.ok, same) are
