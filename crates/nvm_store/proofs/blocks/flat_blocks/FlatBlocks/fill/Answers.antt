use Rattle.std.proofs.Common.{◌≡◌, ℕ, ◌+◌, List, ap, sym, ◌∙◌}
use Rattle.nvm_record.specs.PayloadRef.{lent_bytes}
use Rattle.nvm_record.specs.Step.{block_at}
use Rattle.nvm_store.proofs.FlatBytes.{block_of_part}
use Rattle.nvm_store.proofs.Rewrites.{rewritten_same}
use Rattle.nvm_store.proofs.blocks.flat_blocks.FlatBlocks.fill.Goals as goal

pub returns-in-Data-clause-list : goal.returns-in-Data-clause-list
returns-in-Data-clause-list c =
    let size = c.in-Data.size in
    let own = c.args.self.now.size in
    let whole = lent_bytes c.in-Data.payload in
    let part = c.as_slice.result.now in
    let is = c.as_slice.ensures ∙ c.part-part.ensures in
    let same : size ≡ own = rw c.in-Data.is at c.requires.size in
    rw c.in-Data.is
    (rewritten_same c.args.at c.args.count (block_at own part) (λ i. block_at size whole (c.args.from + i)) c.args.self.now.list c.put.new.self.list
    (λ i lt. ap (λ (s : ℕ). block_at s part i) (sym same) ∙ ap (λ (l : List ℕ). block_at size l i) is ∙ block_of_part size c.args.from c.args.count whole i lt)
    c.put.ensures.list)
