use Rattle.std.proofs.Common.{◌+◌, ◌-◌, ◌++◌, List, ℕ, append_assoc, length, take, sym, ap, ◌∙◌, arith}
use Rattle.std.proofs.lemmas.List.{length-append}
use Rattle.nvm_record.specs.Medium.{joined}
use Rattle.nvm_store.specs.Inside.Rewrite.{stretch_of}
use Rattle.nvm_store.proofs.Stretches.{joined_stretches}
use Rattle.nvm_store.proofs.blocks.shared_blocks.SharedBlocks.copy_to.Goals as goal

pub copy_to-to-requires : goal.copy_to-to-requires
copy_to-to-requires c =
    let stretch = c.stretch-stretch.result.now in
    let n = length stretch in
    let rest = stretch_of (c.loop-left.from + n) (c.loop-left.left - n) c.args.self.now in
    let parts = joined_stretches c.args.self.now stretch c.loop-left.from c.loop-left.left n c.stretch-stretch.ensures.is c.stretch-stretch.ensures.few in
    let lengths = ap length parts ∙ length-append (joined stretch) (joined rest) in
    omega (arith, lengths, c.loop-left.invariant.end)

pub loop-left-preserved : goal.loop-left-preserved
loop-left-preserved c =
    let stretch = c.stretch-stretch.result.now in
    let n = length stretch in
    let rest = stretch_of (c.loop-left.from + n) (c.loop-left.left - n) c.args.self.now in
    let old = c.loop-left.buffer in
    let to = c.loop-left.to in
    let parts = joined_stretches c.args.self.now stretch c.loop-left.from c.loop-left.left n c.stretch-stretch.ensures.is c.stretch-stretch.ensures.few in
    let lengths = ap length parts ∙ length-append (joined stretch) (joined rest) in
    record {
      range = omega (arith, c.stretch-stretch.ensures.few, c.loop-left.invariant.range);
      end = omega (arith, lengths, c.loop-left.invariant.end, c.copy_to-to.ensures.to, c.copy_to-to.auto.buffer);
      bytes =
          ap (λ (l : List ℕ). l ++ joined rest) c.copy_to-to.ensures.put
          ∙ append_assoc (take to old) (joined stretch) (joined rest)
          ∙ ap (λ (l : List ℕ). take to old ++ l) (sym parts)
          ∙ c.loop-left.invariant.bytes;
    }
