use Rattle.nvm_unit.proofs.OnePass.{takes}
use Rattle.nvm_unit.proofs.unit.Unit.take.Goals as goal

pub returns-clause-has : goal.returns-clause-has
returns-clause-has g c = (takes c.args.self.now c.args.token.now.seat.me c.hold.new.token.seat.me c.requires.free c.hold.ensures.held).0

pub returns-clause-waited : goal.returns-clause-waited
returns-clause-waited g c = (takes c.args.self.now c.args.token.now.seat.me c.hold.new.token.seat.me c.requires.free c.hold.ensures.held).1
