use Rattle.nvm_unit.proofs.Waiting.{load_waited, take_missed, waited_takes}
use Rattle.nvm_unit.proofs.latch.Latch.try_hold.Goals as goal

-- the exchange was lost
pub returns-then-found-word-clause-missed : goal.returns-then-found-word-clause-missed
returns-then-found-word-clause-missed g c =
    take_missed g.D.Decides.decides c.load-word.result c.args.token.now.seat.me c.load-word.new.token.seat.me c.load-word.ensures.looked c.if-word-eq1.false
    c.take-found.result c.take-found.new.token.seat.me c.if-found-word.true (c.take-found.ensures.lost c.if-found-word.true)

-- it wasn't
pub returns-clause-held : goal.returns-clause-held
returns-clause-held g c =
    let idle = c.load-word.new.token.seat.me in
    waited_takes c.args.token.now.seat.me idle c.take-found.new.token.seat.me
    (load_waited g.D.Decides.decides c.load-word.result c.args.token.now.seat.me idle c.load-word.ensures.looked c.if-word-eq1.false)
    (c.take-found.ensures.taken c.if-found-word.false)
