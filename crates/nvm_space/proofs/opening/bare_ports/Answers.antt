use Rattle.std.proofs.Common.{subst, sym, refl, [], List}
use Rattle.nvm_space.specs.Inside.Dealing.{AreDealt}
use Rattle.nvm_space.specs.Ports.{PortState}
use Rattle.nvm_space.proofs.NewPorts.{bare_none, bare_one_more}
use Rattle.nvm_space.proofs.opening.bare_ports.Goals as goal

pub loop-number-init : goal.loop-number-init
loop-number-init g c = subst (λ (ps : List PortState). AreDealt 0 [] ps) (sym c.in_ok-ports.ensures.items) bare_none

pub loop-number-preserved : goal.loop-number-preserved
loop-number-preserved g c = bare_one_more c.loop-number.number _ c.in_ok-passes.passes.items c.loop-number.ports.items refl c.push.new.self.items c.loop-number.invariant c.in_ok-passes.ensures.items c.in_ok-push.ensures.items
