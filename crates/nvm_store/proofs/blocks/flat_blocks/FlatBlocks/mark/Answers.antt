use Rattle.std.proofs.Common.{ℕ, ◌+◌, ◌*◌, true, sym, ap, ◌∙◌}
use Rattle.std.proofs.lemmas.Bool.{true≢false}
use Rattle.nvm_store.proofs.FlatLemmas.{flat_within, mark_marked, set_keeps}
use Rattle.nvm_store.proofs.blocks.flat_blocks.FlatBlocks.mark.Goals as goal

pub set_marks-requires : goal.set_marks-requires
set_marks-requires c =
    let own = c.self.inside in
    flat_within own.marks.items own.size own.bytes.items c.args.self.now (c.args.at + c.args.count) c.self.view_is c.requires

pub invariant_of-self : goal.invariant_of-self
invariant_of-self c =
    let own = c.self.inside in
    let within = flat_within own.marks.items own.size own.bytes.items c.args.self.now (c.args.at + c.args.count) c.self.view_is c.requires in
    record {
      whole =
          c.self.invariant.whole
          ∙ ap (λ (k : ℕ). k * own.size) (sym (set_keeps c.args.at c.args.count true own.marks.items c.set_marks.new.marks.items within c.set_marks.ensures));
      none = λ unmarked. absurd (true≢false unmarked);
    }

pub returns-clause-list : goal.returns-clause-list
returns-clause-list c =
    let own = c.self.inside in
    let within = flat_within own.marks.items own.size own.bytes.items c.args.self.now (c.args.at + c.args.count) c.self.view_is c.requires in
    rw (← c.self.view_is)
    (mark_marked c.args.at c.args.count own.size own.marks.items c.set_marks.new.marks.items own.bytes.items within c.set_marks.ensures)
