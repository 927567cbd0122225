use Rattle.std.proofs.Common.{length, arith}
use Rattle.nvm_store.proofs.FlatBytes.{mul_le}
use Rattle.nvm_store.proofs.FlatLemmas.{flat_take, flat_within, take_none, take_whole}
use Rattle.nvm_store.proofs.blocks.flat_blocks.FlatBlocks.truncate.Goals as goal

pub overflow_mul-count : goal.overflow_mul-count
overflow_mul-count c =
    let own = c.self.inside in
    let within = flat_within own.marks.items own.size own.bytes.items c.args.self.now c.args.count c.self.view_is c.requires in
    let far = mul_le c.args.count (length own.marks.items) own.size within in
    omega (arith, far, c.self.invariant.whole, own.bytes.ok, own.bytes.small)

pub invariant_of-self : goal.invariant_of-self
invariant_of-self c =
    let own = c.self.inside in
    let within = flat_within own.marks.items own.size own.bytes.items c.args.self.now c.args.count c.self.view_is c.requires in
    rw (c.shrink_to_fit.ensures.items, c.truncate.ensures.items, c.shrink_to_fit-then-len-capacity.ensures.items, c.truncate-2.ensures.items)
    (record {
      whole = take_whole c.args.count own.size own.marks.items own.bytes.items within c.self.invariant.whole;
      none = λ unmarked. take_none c.args.count own.marks.items within (c.self.invariant.none unmarked);
    })

pub invariant_of-self-else-len-capacity : goal.invariant_of-self-else-len-capacity
invariant_of-self-else-len-capacity c =
    let own = c.self.inside in
    let within = flat_within own.marks.items own.size own.bytes.items c.args.self.now c.args.count c.self.view_is c.requires in
    rw (c.truncate.ensures.items, c.truncate-2.ensures.items)
    (record {
      whole = take_whole c.args.count own.size own.marks.items own.bytes.items within c.self.invariant.whole;
      none = λ unmarked. take_none c.args.count own.marks.items within (c.self.invariant.none unmarked);
    })

pub returns-then-len-capacity-clause-list : goal.returns-then-len-capacity-clause-list
returns-then-len-capacity-clause-list c =
    let own = c.self.inside in
    let within = flat_within own.marks.items own.size own.bytes.items c.args.self.now c.args.count c.self.view_is c.requires in
    rw (c.shrink_to_fit.ensures.items, c.truncate.ensures.items, c.shrink_to_fit-then-len-capacity.ensures.items, c.truncate-2.ensures.items, ← c.self.view_is)
    (flat_take c.args.count own.size own.marks.items own.bytes.items within)

pub returns-else-len-capacity-clause-list : goal.returns-else-len-capacity-clause-list
returns-else-len-capacity-clause-list c =
    let own = c.self.inside in
    let within = flat_within own.marks.items own.size own.bytes.items c.args.self.now c.args.count c.self.view_is c.requires in
    rw (c.truncate.ensures.items, c.truncate-2.ensures.items, ← c.self.view_is)
    (flat_take c.args.count own.size own.marks.items own.bytes.items within)
