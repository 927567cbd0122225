use Rattle.std.proofs.Common.{vec_len}
use Rattle.nvm_space.proofs.Columns.{IsEnding}
use Rattle.nvm_space.proofs.closing.histories.Given as goal

abbrev pub invariant-loop-unit : goal.invariant-loop-unit
invariant-loop-unit g l = IsEnding g.K.Kept.told l.fn.units.items l.fn.ports.items l.units.items l.ports.items l.ended.items

abbrev pub decreases-loop-unit : goal.decreases-loop-unit
decreases-loop-unit g l = vec_len l.units
