use Rattle.nvm_unit.specs.Machine.{opening_state}
use Rattle.nvm_unit.proofs.EventsKept.{opening_kept, events_kept}
use Rattle.nvm_unit.proofs.laws.events_lead_to_sound_states.Goals as goal

pub returns-clause-sound : goal.returns-clause-sound
returns-clause-sound c b events s leads =
    let law = c.lawful_with_one_more.ensures in
    (events_kept (λ place history entry lawful follows. (law place history entry).1 (lawful, follows)) b (opening_state b) events s (opening_kept b) leads).sound

pub returns-clause-known : goal.returns-clause-known
returns-clause-known c b events s leads =
    let law = c.lawful_with_one_more.ensures in
    events_kept (λ place history entry lawful follows. (law place history entry).1 (lawful, follows)) b (opening_state b) events s (opening_kept b) leads
