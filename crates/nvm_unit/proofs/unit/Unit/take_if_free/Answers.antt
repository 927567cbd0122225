use Rattle.nvm_unit.specs.Inside.Holding.{HasMissed}
use Rattle.nvm_unit.specs.Inside.Parts.{FailsAt, HasUnit, IsFree, seated}
use Rattle.nvm_unit.specs.Inside.Plays.{Takes}
use Rattle.nvm_unit.specs.Replies.{Waits}
use Rattle.nvm_unit.proofs.OnePass.{fails, of_taken, of_word, takes}
use Rattle.nvm_unit.proofs.unit.Unit.take_if_free.Goals as goal

pub returns-clause-has : goal.returns-clause-has
returns-clause-has g c =
    let m = c.args.token.now.seat.me in
    let m' = c.try_hold.new.token.seat.me in
    of_taken c.try_hold.result (Takes m m') (HasUnit c.args.self.now m') (λ taken. (takes c.args.self.now m m' c.requires.free taken).0) c.try_hold.ensures.held

pub returns-clause-waited : goal.returns-clause-waited
returns-clause-waited g c =
    let m = c.args.token.now.seat.me in
    let m' = c.try_hold.new.token.seat.me in
    of_taken c.try_hold.result (Takes m m') (Waits (seated m) (seated m')) (λ taken. (takes c.args.self.now m m' c.requires.free taken).1) c.try_hold.ensures.held

pub returns-clause-free : goal.returns-clause-free
returns-clause-free g c =
    let m = c.args.token.now.seat.me in
    let m' = c.try_hold.new.token.seat.me in
    of_word c.try_hold.result (λ word. HasMissed g.D.Decides.decides word m m') (λ _. IsFree c.args.self.now m')
    (λ word missed. (fails c.args.self.now g.D.Decides.decides word m m' c.requires.free missed).0) c.try_hold.ensures.missed

pub returns-clause-failed : goal.returns-clause-failed
returns-clause-failed g c =
    let m = c.args.token.now.seat.me in
    let m' = c.try_hold.new.token.seat.me in
    of_word c.try_hold.result (λ word. HasMissed g.D.Decides.decides word m m') (λ word. FailsAt word g.D.Decides.decides (seated m) (seated m'))
    (λ word missed. (fails c.args.self.now g.D.Decides.decides word m m' c.requires.free missed).1) c.try_hold.ensures.missed
