use Rattle.std.proofs.Common.{◌+◌, ◌-◌, append_assoc, sym, ◌∙◌, arith}
use Rattle.nvm_record.specs.Medium.{joined}
use Rattle.nvm_store.specs.Inside.Rewrite.{stretch_of}
use Rattle.nvm_store.proofs.blocks.paged_blocks.PagedBlocks.push_bytes.Goals as goal

pub loop-left-preserved : goal.loop-left-preserved
loop-left-preserved c =
    let l = c.loop-left in
    let n = c.stretch-stretch.result.len in
    let parts = c.stretch-stretch.ensures.parts in
    let rest = joined (stretch_of (l.from + n) (l.left - n) c.args.self.now.list) in
    let assoc = append_assoc l.bytes.items c.bytes.result.now rest in
    record {
      range = omega (arith, c.stretch-stretch.ensures.few, l.invariant.range);
      unmarked = sym (parts.rest (parts.unmarked l.invariant.unmarked)) ∙ l.invariant.unmarked;
      bytes = cc (c.in_ok-extend_from_slice.ensures.items, c.bytes.ensures.bytes, parts.bytes, assoc, l.invariant.bytes);
    }
