use Rattle.std.proofs.Common.{◌+◌, length, arith}
use Rattle.nvm_store.proofs.FlatBytes.{span_within}
use Rattle.nvm_store.proofs.FlatLemmas.{copied_flat, copied_none, copied_whole, flat_within}
use Rattle.nvm_store.proofs.blocks.flat_blocks.FlatBlocks.copy_within.Goals as goal

pub overflow_mul-from : goal.overflow_mul-from
overflow_mul-from c =
    let own = c.self.inside in
    let within = flat_within own.marks.items own.size own.bytes.items c.args.self.now (c.args.from + c.args.count) c.self.view_is c.requires.range in
    let span = span_within (length own.marks.items) own.size c.args.from c.args.count within in
    omega (arith, span, c.self.invariant.whole, own.bytes.ok, own.bytes.small)

pub overflow_mul-to : goal.overflow_mul-to
overflow_mul-to c =
    let own = c.self.inside in
    let within = flat_within own.marks.items own.size own.bytes.items c.args.self.now (c.args.from + c.args.count) c.self.view_is c.requires.range in
    let span = span_within (length own.marks.items) own.size c.args.from c.args.count within in
    let before = span_within c.args.from own.size c.args.to c.args.count c.requires.before in
    omega (arith, span, before, c.self.invariant.whole, own.bytes.ok, own.bytes.small)

pub overflow_mul-count : goal.overflow_mul-count
overflow_mul-count c =
    let own = c.self.inside in
    let within = flat_within own.marks.items own.size own.bytes.items c.args.self.now (c.args.from + c.args.count) c.self.view_is c.requires.range in
    let span = span_within (length own.marks.items) own.size c.args.from c.args.count within in
    omega (arith, span, c.self.invariant.whole, own.bytes.ok, own.bytes.small)

pub copy_down-requires-clause-range : goal.copy_down-requires-clause-range
copy_down-requires-clause-range c =
    let own = c.self.inside in
    let within = flat_within own.marks.items own.size own.bytes.items c.args.self.now (c.args.from + c.args.count) c.self.view_is c.requires.range in
    let span = span_within (length own.marks.items) own.size c.args.from c.args.count within in
    omega (arith, span, c.self.invariant.whole)

pub copy_down-requires-clause-before : goal.copy_down-requires-clause-before
copy_down-requires-clause-before c = span_within c.args.from c.self.inside.size c.args.to c.args.count c.requires.before

pub copy_down-requires-2-clause-range : goal.copy_down-requires-2-clause-range
copy_down-requires-2-clause-range c =
    let own = c.self.inside in
    flat_within own.marks.items own.size own.bytes.items c.args.self.now (c.args.from + c.args.count) c.self.view_is c.requires.range

pub invariant_of-self : goal.invariant_of-self
invariant_of-self c =
    let own = c.self.inside in
    let bytes = c.copy_down.new.items.items in
    let marks = c.copy_down-2.new.items.items in
    let within = flat_within own.marks.items own.size own.bytes.items c.args.self.now (c.args.from + c.args.count) c.self.view_is c.requires.range in
    record {
      whole =
          copied_whole c.args.from c.args.to c.args.count own.size own.marks.items marks own.bytes.items bytes within c.requires.before
          c.self.invariant.whole c.copy_down.ensures c.copy_down-2.ensures;
      none =
          λ unmarked.
          copied_none c.args.from c.args.to c.args.count own.size own.marks.items marks own.bytes.items bytes within c.requires.before
          c.self.invariant.whole c.copy_down.ensures c.copy_down-2.ensures (c.self.invariant.none unmarked);
    }

pub returns-clause-list : goal.returns-clause-list
returns-clause-list c =
    let own = c.self.inside in
    let within = flat_within own.marks.items own.size own.bytes.items c.args.self.now (c.args.from + c.args.count) c.self.view_is c.requires.range in
    rw (← c.self.view_is)
    (copied_flat c.args.from c.args.to c.args.count own.size own.marks.items c.copy_down-2.new.items.items own.bytes.items c.copy_down.new.items.items within
    c.requires.before c.self.invariant.whole c.copy_down.ensures c.copy_down-2.ensures)
