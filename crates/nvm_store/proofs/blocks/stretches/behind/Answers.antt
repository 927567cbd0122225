use Rattle.std.proofs.Common.{◌+◌, ◌++◌, List, ℕ, drop, sym, ap, ◌∙◌}
use Rattle.std.proofs.lemmas.List.{append_cancel_left}
use Rattle.nvm_record.specs.Medium.{bytes_of, joined}
use Rattle.nvm_store.proofs.Data.{next_begins}
use Rattle.nvm_store.proofs.blocks.stretches.behind.Goals as goal

pub loop-block-preserved : goal.loop-block-preserved
loop-block-preserved c =
    let blocks = c.args.blocks.now in
    let next = next_begins blocks c.loop-block.block-index c.block-item.result c.loop-block-test.true (sym c.block-item.is) in
    let here = c.in_ok-rest.ensures in
    record {
      on = λ r e. append_cancel_left (bytes_of c.block-item.result) (joined (drop (c.loop-block.block-index + 1) blocks) ++ r) c.in_ok-rest.rest.now (sym (next r) ∙ c.loop-block.invariant.on r e ∙ sym here);
      back = λ r e. c.loop-block.invariant.back r (next r ∙ ap (λ (l : List ℕ). bytes_of c.block-item.result ++ l) e ∙ here);
    }
