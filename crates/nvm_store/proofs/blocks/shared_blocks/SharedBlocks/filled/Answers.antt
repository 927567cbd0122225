use Rattle.std.proofs.Common.{◌+◌, refl, arith}
use Rattle.nvm_store.specs.Inside.Source.{source_block}
use Rattle.nvm_store.proofs.Rewrites.{rewritten_on, rewritten_on_as_they_were}
use Rattle.nvm_store.proofs.blocks.shared_blocks.SharedBlocks.filled.Goals as goal
use Rattle.nvm_store.proofs.blocks.shared_blocks.SharedBlocks.filled.Goals.{then-same-gt0, else-same-gt0+in_ok-done}

pub loop-done-preserved : goal.loop-done-preserved
loop-done-preserved c =
    let done = c.loop-done.done in
    let place = c.args.at + done in
    let news = source_block c.args.source.now in
    let old = c.args.self.now in
    let so_far = c.loop-done.invariant.is in
    elim c.if-same-gt0.branch [
      | then-same-gt0 w ↦ record {
        few = omega (arith, w.done-is, c.zero_already-same.ensures.few, c.loop-done-test.true);
        is = rw (w.done-is, w.after-is)
            (rewritten_on_as_they_were c.args.at done c.zero_already-same.result place news old c.loop-done.after so_far refl c.zero_already-same.ensures.same);
      }
      | else-same-gt0+in_ok-done w ↦ record {
        few = omega (arith, w.done-is, w.in_ok-done.ensures.ok.few);
        is = rw (w.done-is, w.after-is)
            (rewritten_on c.args.at done w.in_ok-done.field-0 place news old c.loop-done.after w.fill_stretch.new.self so_far refl w.in_ok-done.ensures.ok.is);
      }
    ]
