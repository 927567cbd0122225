use Rattle.std.proofs.Common.{◌≤◌, ◌<◌, ◌+◌, length, arith}
use Rattle.nvm_store.proofs.Ranges.{same_on_held}
use Rattle.nvm_store.proofs.laws.held_media_agree.Goals as goal

pub returns : goal.returns
returns c unit op m n covered held held' lba inside =
    let within = (c.steps_are_local.ensures.range op lba).0 inside in
    let low : op.first ≤ lba = within.0 in
    let high : lba < op.first + op.blocks = within.1 in
    let above : unit.first ≤ op.first = covered.range.above in
    let below : op.first + op.blocks ≤ unit.first + length unit.blocks = covered.range.below in
    same_on_held unit m n lba (omega arith) (omega arith) held held'
