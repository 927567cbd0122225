use Rattle.std.specs.Slots.{slots_items}
use Rattle.nvm_engine.proofs.Stepping.{closing}
use Rattle.nvm_engine.proofs.steps.close.Goals as goal

pub returns-clause-claims : goal.returns-clause-claims
returns-clause-claims c =
    let seat = c.args.token.seat in
    let closed = c.close_with-closed.result in
    (closing c.args.desk.table.shared.key seat.id seat.me.0 (slots_items closed.words) (slots_items closed.slots) c.word-word.result
    c.requires.all c.word-word.ensures c.close_with-closed.ensures.values.2).0

pub returns-clause-draws : goal.returns-clause-draws
returns-clause-draws c =
    let seat = c.args.token.seat in
    let closed = c.close_with-closed.result in
    (closing c.args.desk.table.shared.key seat.id seat.me.0 (slots_items closed.words) (slots_items closed.slots) c.word-word.result
    c.requires.all c.word-word.ensures c.close_with-closed.ensures.values.2).1
