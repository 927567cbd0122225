use Rattle.std.proofs.Common.{◌-◌, length}
use Rattle.nvm_text.proofs.EqualBytes.{AreEqual}
use Rattle.nvm_text.proofs.run.equal_chunks.Given as goal

abbrev pub invariant-loop-count : goal.invariant-loop-count
invariant-loop-count l = AreEqual l.bytes l.count

abbrev pub decreases-loop-count : goal.decreases-loop-count
decreases-loop-count l = length l.bytes - l.count
