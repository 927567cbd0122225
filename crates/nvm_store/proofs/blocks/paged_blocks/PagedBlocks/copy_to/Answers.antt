use Rattle.std.proofs.Common.{◌+◌, ◌-◌, ℕ, append_assoc, length, take, sym, ap, ◌∙◌, arith}
use Rattle.std.proofs.lemmas.List.{length-append}
use Rattle.nvm_record.specs.Medium.{joined}
use Rattle.nvm_store.specs.Inside.Rewrite.{stretch_of}
use Rattle.nvm_store.proofs.blocks.paged_blocks.PagedBlocks.copy_to.Goals as goal

pub put_bytes-to-requires : goal.put_bytes-to-requires
put_bytes-to-requires c =
    let lengths = ap length (c.stretch-stretch.ensures.parts.bytes) in
    let own = ap length c.bytes.ensures.bytes in
    omega (arith, lengths, length-append {A = ℕ}, own, c.loop-left.invariant.end)

pub loop-left-preserved : goal.loop-left-preserved
loop-left-preserved c =
    let l = c.loop-left in
    let n = c.stretch-stretch.result.len in
    let parts = c.stretch-stretch.ensures.parts in
    let rest = joined (stretch_of (l.from + n) (l.left - n) c.args.self.now.list) in
    let lengths = ap length parts.bytes in
    let own = ap length c.bytes.ensures.bytes in
    let assoc = append_assoc (take l.to l.buffer) c.bytes.result.now rest in
    record {
      range = omega (arith, c.stretch-stretch.ensures.few, l.invariant.range);
      unmarked = sym (parts.rest (parts.unmarked l.invariant.unmarked)) ∙ l.invariant.unmarked;
      end = omega (arith, lengths, length-append {A = ℕ}, own, l.invariant.end, c.put_bytes-to.ensures.to, c.put_bytes-to.auto.buffer);
      bytes = cc (c.put_bytes-to.ensures.put, c.bytes.ensures.bytes, parts.bytes, assoc, l.invariant.bytes);
    }
