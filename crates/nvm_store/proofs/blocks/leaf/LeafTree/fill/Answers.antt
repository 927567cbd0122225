use Rattle.std.proofs.Common.{◌≡◌, ℕ, ◌+◌, ◌-◌, ◌<◌, ◌≤◌, length, ap, ◌∙◌, arith}
use Rattle.nvm_record.specs.declared.block.Block.{Block}
use Rattle.std.proofs.Math.ListN.{set}
use Rattle.nvm_store.specs.Inside.Source.{source_block}
use Rattle.nvm_store.proofs.Rewrites.{rewritten_more}
use Rattle.nvm_store.proofs.blocks.leaf.LeafTree.fill.Goals as goal

pub loop-place-preserved : goal.loop-place-preserved
loop-place-preserved c =
    let at = c.args.at in
    let place = c.loop-place.place in
    let i = place - at in
    let low : at ≤ place = c.loop-place.auto.place in
    let next : i + 1 ≡ place + 1 - at = omega arith in
    let news = λ (k : ℕ). source_block c.args.source.now (c.args.from + k) in
    let len : c.len.result ≡ length c.args.self.now = c.len.ensures ∙ c.self.inside.kept.ok.0 ∙ ap length c.self.view_is in
    let below : place < at + c.min-count.result = c.loop-place-test.true in
    let block = c.plain_block.ensures (c.args.from + i) in
    let put = c.put.ensures ∙ ap (λ (b : Block). set c.loop-place.self place b) block in
    rw next at
    (rewritten_more at i place news c.args.self.now c.loop-place.self c.put.new.self c.loop-place.invariant (omega arith)
    (omega (arith, len, c.min-count.ensures, below)) put)
