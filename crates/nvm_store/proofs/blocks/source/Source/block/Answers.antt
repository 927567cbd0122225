use Rattle.std.proofs.Common.{◌≤◌, ◌+◌, ◌*◌, length, arith}
use Rattle.nvm_record.specs.PayloadRef.{lent_bytes}
use Rattle.nvm_store.proofs.blocks.source.Source.block.Goals as goal

pub overflow_mul-from : goal.overflow_mul-from
overflow_mul-from c =
    let has : (c.args.i + 1) * c.in-Data.size ≤ length (lent_bytes c.in-Data.payload) = rw c.in-Data.is at c.requires in
    omega arith

pub overflow_add-from : goal.overflow_add-from
overflow_add-from c =
    let has : (c.args.i + 1) * c.in-Data.size ≤ length (lent_bytes c.in-Data.payload) = rw c.in-Data.is at c.requires in
    omega arith
