use Rattle.std.proofs.Common.{◌+◌, ◌-◌, ◌++◌, List, ℕ, append_assoc, length, sym, ap, ◌∙◌, arith}
use Rattle.nvm_record.specs.Medium.{joined}
use Rattle.nvm_store.specs.Inside.Rewrite.{stretch_of}
use Rattle.nvm_store.proofs.Stretches.{joined_stretches}
use Rattle.nvm_store.proofs.blocks.shared_blocks.SharedBlocks.push_bytes.Goals as goal

pub loop-left-preserved : goal.loop-left-preserved
loop-left-preserved c =
    let stretch = c.stretch-stretch.result.now in
    let n = length stretch in
    let rest = stretch_of (c.loop-left.from + n) (c.loop-left.left - n) c.args.self.now in
    let bytes = c.loop-left.bytes.items in
    let parts = joined_stretches c.args.self.now stretch c.loop-left.from c.loop-left.left n c.stretch-stretch.ensures.is c.stretch-stretch.ensures.few in
    record {
      range = omega (arith, c.stretch-stretch.ensures.few, c.loop-left.invariant.range);
      bytes =
          ap (λ (l : List ℕ). l ++ joined rest) c.in_ok-push_bytes.ensures
          ∙ append_assoc bytes (joined stretch) (joined rest)
          ∙ ap (λ (l : List ℕ). bytes ++ l) (sym parts)
          ∙ c.loop-left.invariant.bytes;
    }
