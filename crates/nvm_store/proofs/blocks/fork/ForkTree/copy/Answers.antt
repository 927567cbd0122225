use Rattle.std.proofs.Common.{◌<◌, length}
use Rattle.nvm_store.proofs.Parts.{copied_more}
use Rattle.nvm_store.proofs.blocks.fork.ForkTree.copy.Goals as goal

pub loop-kid-preserved : goal.loop-kid-preserved
loop-kid-preserved g c =
    let kids = c.self.inside.kids.items in
    let i = c.loop-kid.kid-index in
    let lt : i < length kids = rw c.deref-kid-items.ensures.value at c.loop-kid-test.true in
    let is = rw c.deref-kid-items.ensures.value at c.kid-item.is in
    let so_far = rw c.deref-kid-items.ensures.value at c.loop-kid.invariant in
    rw (c.in_ok-push.ensures.items, c.deref-kid-items.ensures.value)
    (copied_more g.T.Tree.blocks kids c.loop-kid.copies.items i c.kid-item.result c.in_ok-try_clone.field-0 lt is c.in_ok-try_clone.ensures
    so_far)
