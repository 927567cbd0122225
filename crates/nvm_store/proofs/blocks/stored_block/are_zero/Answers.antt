use Rattle.nvm_store.proofs.Data.{zero_test}
use Rattle.nvm_store.proofs.blocks.stored_block.are_zero.Goals as goal

pub returns-then-bytes-eq0 : goal.returns-then-bytes-eq0
returns-then-bytes-eq0 c = zero_test c.args.bytes.now c.eq.result c.if-len-eq0.false c.if-bytes-eq0.true c.eq.ensures
