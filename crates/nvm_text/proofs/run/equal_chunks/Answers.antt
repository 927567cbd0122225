use Rattle.std.proofs.Common.{◌≡◌, ◌+◌, ◌-◌, take, drop, arith, sym}
use Rattle.std.proofs.lemmas.Slice.Eq.{bytes_eq-Decides}
use Rattle.nvm_text.proofs.EqualBytes.{piece_equal}
use Rattle.nvm_text.proofs.run.equal_chunks.Goals as goal

pub loop-count-preserved : goal.loop-count-preserved
loop-count-preserved c =
    let a : c.loop-count.count + 64 - c.loop-count.count ≡ 64 = omega arith in
    let b : c.loop-count.count - 1 + 64 - (c.loop-count.count - 1) ≡ 64 = omega arith in
    let same = rw (a, b) at c.if-eq.ensures in
    piece_equal c.args.bytes.now c.loop-count.count 64 c.loop-count.invariant (omega arith)
    ((bytes_eq-Decides (take 64 (drop c.loop-count.count c.args.bytes.now)) (take 64 (drop (c.loop-count.count - 1) c.args.bytes.now))).0 (sym same))
