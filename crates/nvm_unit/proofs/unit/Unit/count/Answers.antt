use Rattle.std.proofs.Common.{◌/◌, true}
use Rattle.nvm_unit.proofs.OnePass.{stays_free}
use Rattle.nvm_unit.proofs.unit.Unit.count.Goals as goal

pub returns-clause-free : goal.returns-clause-free
returns-clause-free g c =
    (stays_free c.args.self.now true (c.load.result / 2) c.args.token.now.seat.me c.load.new.token.seat.me c.requires.free c.load.ensures.looked.after c.load.ensures.looked.later).0

pub returns-clause-learns : goal.returns-clause-learns
returns-clause-learns g c =
    let stays = stays_free c.args.self.now true (c.load.result / 2) c.args.token.now.seat.me c.load.new.token.seat.me c.requires.free c.load.ensures.looked.after c.load.ensures.looked.later in
    (stays.1, stays.2)
