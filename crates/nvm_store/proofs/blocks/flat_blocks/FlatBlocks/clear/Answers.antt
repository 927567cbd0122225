use Rattle.std.proofs.Common.{ℕ, ◌+◌, ◌*◌, length, replicate, false, sym, ap, ◌∙◌, arith}
use Rattle.std.proofs.lemmas.Bool.{true≢false}
use Rattle.std.proofs.lemmas.List.{length-replicate}
use Rattle.nvm_store.proofs.FlatBytes.{span_within}
use Rattle.nvm_store.proofs.FlatLemmas.{clear_marked, clear_unmarked, flat_within, put_keeps, set_keeps}
use Rattle.nvm_store.proofs.blocks.flat_blocks.FlatBlocks.clear.Goals as goal

pub overflow_mul-at : goal.overflow_mul-at
overflow_mul-at c =
    let own = c.self.inside in
    let within = flat_within own.marks.items own.size own.bytes.items c.args.self.now (c.args.at + c.args.count) c.self.view_is c.requires in
    let span = span_within (length own.marks.items) own.size c.args.at c.args.count within in
    omega (arith, span, c.self.invariant.whole, own.bytes.ok, own.bytes.small)

pub overflow_mul-count : goal.overflow_mul-count
overflow_mul-count c =
    let own = c.self.inside in
    let within = flat_within own.marks.items own.size own.bytes.items c.args.self.now (c.args.at + c.args.count) c.self.view_is c.requires in
    let span = span_within (length own.marks.items) own.size c.args.at c.args.count within in
    omega (arith, span, c.self.invariant.whole, own.bytes.ok, own.bytes.small)

pub clear-requires : goal.clear-requires
clear-requires c =
    let own = c.self.inside in
    let within = flat_within own.marks.items own.size own.bytes.items c.args.self.now (c.args.at + c.args.count) c.self.view_is c.requires in
    let span = span_within (length own.marks.items) own.size c.args.at c.args.count within in
    omega (arith, span, c.self.invariant.whole)

pub set_marks-requires : goal.set_marks-requires
set_marks-requires c =
    let own = c.self.inside in
    flat_within own.marks.items own.size own.bytes.items c.args.self.now (c.args.at + c.args.count) c.self.view_is c.requires

pub invariant_of-self : goal.invariant_of-self
invariant_of-self c =
    let own = c.self.inside in
    let within = flat_within own.marks.items own.size own.bytes.items c.args.self.now (c.args.at + c.args.count) c.self.view_is c.requires in
    let few = length-replicate {A = ℕ} (c.args.count * own.size) 0 in
    record {
      whole =
          put_keeps c.args.at c.args.count own.size (length own.marks.items) (replicate (c.args.count * own.size) 0) own.bytes.items c.clear.new.bytes.items within few
          c.self.invariant.whole c.clear.ensures
          ∙ ap (λ (k : ℕ). k * own.size) (sym (set_keeps c.args.at c.args.count false own.marks.items c.set_marks.new.marks.items within c.set_marks.ensures));
      none = λ unmarked. absurd (true≢false (sym c.if-self.true ∙ unmarked));
    }

pub invariant_of-self-else-self : goal.invariant_of-self-else-self
invariant_of-self-else-self c =
    let own = c.self.inside in
    let within = flat_within own.marks.items own.size own.bytes.items c.args.self.now (c.args.at + c.args.count) c.self.view_is c.requires in
    let few = length-replicate {A = ℕ} (c.args.count * own.size) 0 in
    record {
      whole =
          put_keeps c.args.at c.args.count own.size (length own.marks.items) (replicate (c.args.count * own.size) 0) own.bytes.items c.clear.new.bytes.items within few
          c.self.invariant.whole c.clear.ensures;
      none = c.self.invariant.none;
    }

pub returns-then-self-clause-list : goal.returns-then-self-clause-list
returns-then-self-clause-list c =
    let own = c.self.inside in
    let within = flat_within own.marks.items own.size own.bytes.items c.args.self.now (c.args.at + c.args.count) c.self.view_is c.requires in
    rw (← c.self.view_is)
    (clear_marked c.args.at c.args.count own.size own.marks.items c.set_marks.new.marks.items own.bytes.items c.clear.new.bytes.items within
    c.self.invariant.whole c.clear.ensures c.set_marks.ensures)

pub returns-else-self-clause-list : goal.returns-else-self-clause-list
returns-else-self-clause-list c =
    let own = c.self.inside in
    let within = flat_within own.marks.items own.size own.bytes.items c.args.self.now (c.args.at + c.args.count) c.self.view_is c.requires in
    rw (← c.self.view_is)
    (clear_unmarked c.args.at c.args.count own.size own.marks.items own.bytes.items c.clear.new.bytes.items within
    c.self.invariant.whole c.clear.ensures (c.self.invariant.none c.if-self.false))
