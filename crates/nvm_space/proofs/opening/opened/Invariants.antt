use Rattle.nvm_space.specs.Inside.Dealing.{AreDealt}
use Rattle.nvm_space.proofs.NewPorts.{AreLaid}
use Rattle.nvm_space.proofs.opening.opened.Given as goal

-- The units so far are at their places, and the ports have their passes.
abbrev pub invariant-loop-number : goal.invariant-loop-number
invariant-loop-number g l = record {
  laid : AreLaid l.geometry l.fn.ports l.limit l.versions l.number l.units.items;
  dealt : AreDealt l.fn.ports l.units.items l.dealt.items;
}
