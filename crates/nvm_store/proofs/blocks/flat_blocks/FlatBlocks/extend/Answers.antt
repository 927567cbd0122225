use Rattle.std.proofs.Common.{◌≡◌, ℕ, ◌+◌, ◌-◌, ◌*◌, ◌++◌, ◌≤◌, List, Bool, false, length, take, replicate, ap, ◌∙◌, arith}
use Rattle.nvm_store.proofs.FlatLemmas.{extended_none, extended_pages, extended_whole, on_ok, where_ok}
use Rattle.nvm_store.proofs.blocks.flat_blocks.FlatBlocks.extend.Goals as goal
use Rattle.nvm_store.proofs.blocks.flat_blocks.FlatBlocks.extend.Goals.{After-resize-2}

-- all blocks, with those that are added
abbrev all : After-resize-2 → ℕ
all c = c.len.result + c.args.more

count : (c : After-resize-2) → all c ≡ length c.self.inside.marks.items + c.args.more
count c = ap (λ (k : ℕ). k + c.args.more) (c.len.ensures ∙ c.reserve.new.self.ok.0 ∙ ap length c.reserve.ensures.items)

filled : (c : After-resize-2) → c.resize.new.self.items
    ≡ take (all c * c.self.inside.size) c.self.inside.bytes.items ++ replicate (all c * c.self.inside.size - length c.self.inside.bytes.items) 0
filled c =
    c.in_ok-resize.ensures.items
    ∙ ap
    (λ (k : ℕ). take (all c * c.self.inside.size) c.make_room.new.bytes.items ++ replicate {A = ℕ} (all c * c.self.inside.size - k) 0) c.make_room.new.bytes.ok.0
    ∙ ap
    (λ (l : List ℕ). take (all c * c.self.inside.size) l ++ replicate {A = ℕ} (all c * c.self.inside.size - length l) 0) c.make_room.ensures

set : (c : After-resize-2) → c.resize-2.new.self.items
    ≡ take (all c) c.self.inside.marks.items ++ replicate (all c - length c.self.inside.marks.items) false
set c =
    let room = c.in_ok-reserve.ensures.ok in
    let fits : all c ≤ c.reserve.new.self.cap = omega (arith, room, c.len.ensures) in
    where_ok c.resize-2.result c.resize-2.new.self.items (take (all c) c.reserve.new.self.items ++ replicate (all c - c.reserve.new.self.len) false)
    c.reserve.new.self.items (c.resize-2.ensures.succeeds fits) c.resize-2.ensures.items
    ∙ ap (λ (k : ℕ). take (all c) c.reserve.new.self.items ++ replicate (all c - k) false) c.reserve.new.self.ok.0
    ∙ ap (λ (l : List Bool). take (all c) l ++ replicate (all c - length l) false) c.reserve.ensures.items

pub invariant_of-self-2 : goal.invariant_of-self-2
invariant_of-self-2 c =
    let own = c.self.inside in
    record {
      whole =
          extended_whole c.args.more own.size (all c) own.marks.items c.resize-2.new.self.items own.bytes.items c.resize.new.self.items c.self.invariant.whole
          (count c) (filled c) (set c);
      none =
          λ unmarked.
          extended_none c.args.more own.size (all c) own.marks.items c.resize-2.new.self.items own.bytes.items c.resize.new.self.items c.self.invariant.whole
          (count c) (filled c) (set c) (c.self.invariant.none unmarked);
    }

pub returns-clause-ok : goal.returns-clause-ok
returns-clause-ok c =
    let own = c.self.inside in
    rw (← c.self.view_is)
    (on_ok c.resize-2.result _
    (extended_pages c.args.more own.size (all c) own.marks.items c.resize-2.new.self.items own.bytes.items c.resize.new.self.items c.self.invariant.whole
    (count c) (filled c) (set c)))
