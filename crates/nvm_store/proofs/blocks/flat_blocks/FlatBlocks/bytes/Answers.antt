use Rattle.std.proofs.Common.{◌≡◌, ℕ, ◌+◌, ◌-◌, ◌*◌, List, length, take, drop, ap, ◌∙◌, arith}
use Rattle.nvm_store.proofs.FlatBytes.{span_within}
use Rattle.nvm_store.proofs.FlatLemmas.{flat_within, joined_unmarked}
use Rattle.nvm_store.proofs.blocks.flat_blocks.FlatBlocks.bytes.Goals as goal

pub overflow_mul-result : goal.overflow_mul-result
overflow_mul-result c =
    let own = c.self.inside in
    let within = flat_within own.marks.items own.size own.bytes.items c.args.self.now (c.args.at + c.args.count) c.self.view_is c.requires.range in
    let span = span_within (length own.marks.items) own.size c.args.at c.args.count within in
    omega (arith, span, c.self.invariant.whole, own.bytes.ok, own.bytes.small)

pub overflow_add-result : goal.overflow_add-result
overflow_add-result c =
    let own = c.self.inside in
    let within = flat_within own.marks.items own.size own.bytes.items c.args.self.now (c.args.at + c.args.count) c.self.view_is c.requires.range in
    omega (arith, within, own.marks.ok, own.marks.small)

pub overflow_mul-result-2 : goal.overflow_mul-result-2
overflow_mul-result-2 c =
    let own = c.self.inside in
    let within = flat_within own.marks.items own.size own.bytes.items c.args.self.now (c.args.at + c.args.count) c.self.view_is c.requires.range in
    let span = span_within (length own.marks.items) own.size c.args.at c.args.count within in
    omega (arith, span, c.self.invariant.whole, own.bytes.ok, own.bytes.small)

pub slice_bounds-result-end : goal.slice_bounds-result-end
slice_bounds-result-end c =
    let own = c.self.inside in
    let within = flat_within own.marks.items own.size own.bytes.items c.args.self.now (c.args.at + c.args.count) c.self.view_is c.requires.range in
    let span = span_within (length own.marks.items) own.size c.args.at c.args.count within in
    omega (arith, span, c.self.invariant.whole, own.bytes.ok, c.deref.ensures.len)

pub returns-clause-bytes : goal.returns-clause-bytes
returns-clause-bytes c =
    let own = c.self.inside in
    let at = c.args.at in
    let count = c.args.count in
    let within = flat_within own.marks.items own.size own.bytes.items c.args.self.now (at + count) c.self.view_is c.requires.range in
    let few : (at + count) * own.size - at * own.size ≡ count * own.size = omega arith in
    rw few
    (ap (λ (l : List ℕ). take (count * own.size) (drop (at * own.size) l)) c.deref.ensures.value
    ∙ (rw (← c.self.view_is)
    (joined_unmarked at count own.size own.marks.items own.bytes.items within (rw (← c.self.view_is) at c.requires.unmarked))))
