use Rattle.std.proofs.Common.{[], ◌∷◌, inl}
use Rattle.nvm_unit.specs.Inside.Parts.{seated, held_history}
use Rattle.nvm_unit.proofs.OnePass.{can_return, gives_back}
use Rattle.nvm_unit.proofs.unit.Unit.give_back.Goals as goal

pub put-requires-clause-ready : goal.put-requires-clause-ready
put-requires-clause-ready g c =
    let m = c.args.token.now.seat.me in
    inl (seated m ∷ [], held_history m, c.args.self.now.bounds, can_return c.args.self.now m c.requires.has g.D.Decides.decides c.args.entries c.requires.count)

pub returns-clause-free : goal.returns-clause-free
returns-clause-free g c =
    (gives_back c.args.self.now c.args.token.now.seat.me c.requires.has g.D.Decides.decides c.args.entries c.put.new.token.seat.me c.requires.count c.put.ensures.returned).0

pub returns-clause-shown : goal.returns-clause-shown
returns-clause-shown g c =
    (gives_back c.args.self.now c.args.token.now.seat.me c.requires.has g.D.Decides.decides c.args.entries c.put.new.token.seat.me c.requires.count c.put.ensures.returned).1
