use Rattle.std.proofs.Common.{[]}
use Rattle.nvm_space.specs.Inside.Dealing.{AreDealt}
use Rattle.nvm_space.proofs.opening.bare_ports.Given as goal

abbrev pub invariant-loop-number : goal.invariant-loop-number
invariant-loop-number g l = AreDealt l.number [] l.ports.items
