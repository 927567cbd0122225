use Rattle.std.proofs.Common.{length, ◌-◌}
use Rattle.nvm_evidence.proofs.together.most_of.Given as goal

abbrev pub decreases-loop-over : goal.decreases-loop-over
decreases-loop-over l = length l.ends - l.over
