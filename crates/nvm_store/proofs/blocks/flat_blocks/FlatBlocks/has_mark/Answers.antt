use Rattle.std.proofs.Common.{◌≡◌, ℕ, ◌+◌, ◌-◌, List, Bool, take, drop, true, refl, ap, ◌∙◌, arith}
use mathlib.Core.Bool.{beq}
use Rattle.std.specs.List.{list_any}
use Rattle.nvm_store.proofs.FlatLemmas.{any_in_stretch, flat_within, none_in_stretch}
use Rattle.nvm_store.proofs.blocks.flat_blocks.FlatBlocks.has_mark.Goals as goal

pub overflow_add-at : goal.overflow_add-at
overflow_add-at c =
    let own = c.self.inside in
    let within = flat_within own.marks.items own.size own.bytes.items c.args.self.now (c.args.at + c.args.count) c.self.view_is c.requires in
    omega (arith, within, own.marks.ok, own.marks.small)

pub slice_bounds-contains-end : goal.slice_bounds-contains-end
slice_bounds-contains-end c =
    let own = c.self.inside in
    let within = flat_within own.marks.items own.size own.bytes.items c.args.self.now (c.args.at + c.args.count) c.self.view_is c.requires in
    omega (arith, within, own.marks.ok, c.deref.ensures.len)

pub returns-then-self : goal.returns-then-self
returns-then-self c =
    let own = c.self.inside in
    let within = flat_within own.marks.items own.size own.bytes.items c.args.self.now (c.args.at + c.args.count) c.self.view_is c.requires in
    let at = c.args.at in
    let count = c.args.count in
    let just : at + count - at ≡ count = omega arith in
    let test = λ (y : Bool). beq y true in
    rw (← c.self.view_is)
    (c.contains.ensures.value
    ∙ ap (λ (l : List Bool). list_any test (take (at + count - at) (drop at l))) c.deref.ensures.value
    ∙ ap (λ (n : ℕ). list_any test (take n (drop at own.marks.items))) just
    ∙ any_in_stretch test refl refl at count own.size own.marks.items own.bytes.items within)

pub returns-else-self : goal.returns-else-self
returns-else-self c =
    let own = c.self.inside in
    let within = flat_within own.marks.items own.size own.bytes.items c.args.self.now (c.args.at + c.args.count) c.self.view_is c.requires in
    rw (← c.self.view_is)
    (c.if-self.false ∙ none_in_stretch c.args.at c.args.count own.size own.marks.items own.bytes.items within (c.self.invariant.none c.if-self.false))
