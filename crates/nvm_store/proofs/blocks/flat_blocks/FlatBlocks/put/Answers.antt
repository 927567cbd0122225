use Rattle.std.proofs.Common.{◌≡◌, ℕ, ◌+◌, ◌*◌, length, false, sym, ap, ◌∙◌, arith}
use Rattle.std.proofs.lemmas.Bool.{true≢false}
use Rattle.nvm_store.proofs.FlatBytes.{span_within}
use Rattle.nvm_store.proofs.FlatLemmas.{flat_within, put_keeps, put_marked, put_unmarked, set_keeps}
use Rattle.nvm_store.proofs.blocks.flat_blocks.FlatBlocks.put.Goals as goal

pub overflow_mul-at : goal.overflow_mul-at
overflow_mul-at c =
    let own = c.self.inside in
    let within = flat_within own.marks.items own.size own.bytes.items c.args.self.now (c.args.at + c.args.count) c.self.view_is c.requires.range in
    let span = span_within (length own.marks.items) own.size c.args.at c.args.count within in
    omega (arith, span, c.self.invariant.whole, own.bytes.ok, own.bytes.small)

pub put-requires : goal.put-requires
put-requires c =
    let own = c.self.inside in
    let within = flat_within own.marks.items own.size own.bytes.items c.args.self.now (c.args.at + c.args.count) c.self.view_is c.requires.range in
    let span = span_within (length own.marks.items) own.size c.args.at c.args.count within in
    let few : length c.args.payload.now ≡ c.args.count * own.size = rw (← c.self.view_is) at c.requires.payload in
    omega (arith, span, few, c.self.invariant.whole)

pub set_marks-requires : goal.set_marks-requires
set_marks-requires c =
    let own = c.self.inside in
    flat_within own.marks.items own.size own.bytes.items c.args.self.now (c.args.at + c.args.count) c.self.view_is c.requires.range

pub invariant_of-self : goal.invariant_of-self
invariant_of-self c =
    let own = c.self.inside in
    let within = flat_within own.marks.items own.size own.bytes.items c.args.self.now (c.args.at + c.args.count) c.self.view_is c.requires.range in
    let few : length c.args.payload.now ≡ c.args.count * own.size = rw (← c.self.view_is) at c.requires.payload in
    record {
      whole =
          put_keeps c.args.at c.args.count own.size (length own.marks.items) c.args.payload.now own.bytes.items c.put.new.bytes.items within few
          c.self.invariant.whole c.put.ensures
          ∙ ap (λ (k : ℕ). k * own.size) (sym (set_keeps c.args.at c.args.count false own.marks.items c.set_marks.new.marks.items within c.set_marks.ensures));
      none = λ unmarked. absurd (true≢false (sym c.if-self.true ∙ unmarked));
    }

pub invariant_of-self-else-self : goal.invariant_of-self-else-self
invariant_of-self-else-self c =
    let own = c.self.inside in
    let within = flat_within own.marks.items own.size own.bytes.items c.args.self.now (c.args.at + c.args.count) c.self.view_is c.requires.range in
    let few : length c.args.payload.now ≡ c.args.count * own.size = rw (← c.self.view_is) at c.requires.payload in
    record {
      whole =
          put_keeps c.args.at c.args.count own.size (length own.marks.items) c.args.payload.now own.bytes.items c.put.new.bytes.items within few
          c.self.invariant.whole c.put.ensures;
      none = c.self.invariant.none;
    }

pub returns-then-self-clause-list : goal.returns-then-self-clause-list
returns-then-self-clause-list c =
    let own = c.self.inside in
    let within = flat_within own.marks.items own.size own.bytes.items c.args.self.now (c.args.at + c.args.count) c.self.view_is c.requires.range in
    let few : length c.args.payload.now ≡ c.args.count * own.size = rw (← c.self.view_is) at c.requires.payload in
    rw (← c.self.view_is)
    (put_marked c.args.at c.args.count own.size own.marks.items c.set_marks.new.marks.items c.args.payload.now own.bytes.items c.put.new.bytes.items within few
    c.self.invariant.whole c.put.ensures c.set_marks.ensures)

pub returns-else-self-clause-list : goal.returns-else-self-clause-list
returns-else-self-clause-list c =
    let own = c.self.inside in
    let within = flat_within own.marks.items own.size own.bytes.items c.args.self.now (c.args.at + c.args.count) c.self.view_is c.requires.range in
    let few : length c.args.payload.now ≡ c.args.count * own.size = rw (← c.self.view_is) at c.requires.payload in
    rw (← c.self.view_is)
    (put_unmarked c.args.at c.args.count own.size own.marks.items c.args.payload.now own.bytes.items c.put.new.bytes.items within few
    c.self.invariant.whole c.put.ensures (c.self.invariant.none c.if-self.false))
