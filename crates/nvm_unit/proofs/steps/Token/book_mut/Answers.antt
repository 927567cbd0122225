use Rattle.std.proofs.Common.{ap, Some}
use Rattle.nvm_unit.specs.Inside.Plays.{Sits}
use Rattle.nvm_unit.proofs.Lending.{one_and_rest}
use Rattle.nvm_unit.proofs.steps.Token.book_mut.Goals as goal

pub slot_mut-requires : goal.slot_mut-requires
slot_mut-requires g c =
    let held = c.requires.held in
    (c.requires.at, (Some held.2, one_and_rest c.args.self.now.seat.me.1 (0, Some held.2) (ap (λ (m : Sits). m.1) held.3)))
