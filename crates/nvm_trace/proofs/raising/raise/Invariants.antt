use Rattle.nvm_trace.specs.Inside.Latest.{IsRaisedTo}
use Rattle.nvm_trace.proofs.raising.raise.Given as goal

abbrev pub invariant-loop-level : goal.invariant-loop-level
invariant-loop-level l = IsRaisedTo l.fn.row.items l.row.items l.level l.latest
