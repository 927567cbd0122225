use Rattle.std.proofs.Common.{ap, sym, ◌∙◌, bytes_eq}
use Rattle.nvm_store.proofs.Data.{no_front}
use Rattle.nvm_store.proofs.blocks.stored_block.behind_bytes.Goals as goal

pub returns-else-are_equal : goal.returns-else-are_equal
returns-else-are_equal c = λ rest e.
    no_front c.args.bytes.now c.args.payload.now rest (ap (λ l. bytes_eq l c.args.bytes.now) (sym c.split_at.ensures.front) ∙ sym c.if-are_equal.ensures) e
