use Rattle.std.proofs.Common.{◌≡◌}
use Rattle.nvm_generate.specs.Stamp.{stamps}
use Rattle.nvm_generate.proofs.stamp.stamps.Given as goal

abbrev pub invariant-loop-block : goal.invariant-loop-block
invariant-loop-block l = l.bytes.items ≡ stamps l.size l.host l.cid l.block
