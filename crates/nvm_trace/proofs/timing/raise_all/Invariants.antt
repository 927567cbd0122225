use Rattle.std.proofs.Common.{map}
use Rattle.nvm_trace.specs.Inside.Latest.{AreRaisedTo}
use Rattle.nvm_trace.proofs.timing.raise_all.Given as goal

abbrev pub invariant-loop-unit : goal.invariant-loop-unit
invariant-loop-unit l = AreRaisedTo (map (λ row. row.items) l.fn.rows.items) (map (λ row. row.items) l.rows.items) l.unit
