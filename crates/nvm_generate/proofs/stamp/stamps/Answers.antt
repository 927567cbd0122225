use Rattle.std.proofs.Common.{arith}
use Rattle.std.proofs.lemmas.Grind.{common_steps}
use Rattle.nvm_generate.proofs.Stamps.{stamps_more}
use Rattle.nvm_generate.proofs.stamp.stamps.Goals as goal

pub loop-block-preserved : goal.loop-block-preserved
loop-block-preserved c = grind (arith, common_steps, stamps_more c.args.size c.args.host c.args.cid c.loop-block.block)
