use Rattle.std.proofs.Common.{◌<◌, ◌∙◌, length, sym, subst, arith}
use Rattle.std.proofs.lemmas.List.{length-map}
use Rattle.nvm_store.specs.History.{IsLawfulHistory}
use Rattle.nvm_unit.specs.Machine.{UnitState}
use Rattle.nvm_space.proofs.Lists.{at_below, at_map_back, at_some}
use Rattle.nvm_space.proofs.Moments.{change_rests, look_rests}
use Rattle.nvm_space.proofs.laws.answers_rest_on_the_histories_of_any_moment.Goals as goal

pub returns-clause-lawful : goal.returns-clause-lawful
returns-clause-lawful c s states laid all = record {
  count = length-map states (λ (state : UnitState). state.history) ∙ all.count ∙ laid.count;
  each = λ k history at.
      let back = at_map_back (λ (state : UnitState). state.history) states k history at in
      let below : k < length states = at_below states k back.0 back.1 in
      let unit = at_some s.units k (omega (arith, below, all.count)) in
      let reached = all.reached k unit.0 back.0 unit.1 back.1 in
      let sound = c.events_lead_to_sound_states.ensures.sound unit.0.bounds reached.0 back.0 reached.1 in
      (unit.0.bounds.place, (laid.each k unit.0 unit.1).place, subst (IsLawfulHistory unit.0.bounds.place) (sym back.2) sound.hold.lawful);
}

pub returns-clause-own : goal.returns-clause-own
returns-clause-own c s states k unit state all its at =
    let reached = all.reached k unit state its at in
    (c.events_lead_to_sound_states.ensures.sound unit.bounds reached.0 state reached.1).marks

pub returns-clause-changed : goal.returns-clause-changed
returns-clause-changed c s states k unit state changed p q job op all its at made seen =
    let reached = all.reached k unit state its at in
    let sound = c.events_lead_to_sound_states.ensures.sound unit.bounds reached.0 state reached.1 in
    let further = c.beginnings_of_beginnings_begin.ensures.further in
    let begun = further q.seen seen.pass.seen state.history seen.begins (sound.hold.seen seen.group seen.place seen.pass seen.stands) in
    let marked = c.changes_mark_their_points.ensures.marked changed p q job op made in
    let rests = c.changes_rest_on_their_points.ensures.at changed p q job op state.history made begun in
    change_rests changed p q op state.history rests.0 rests.1 rests.2 marked (further p.seen q.seen state.history marked.seen begun)

pub returns-clause-done : goal.returns-clause-done
returns-clause-done c s states k unit state n p q job op all its at made seen =
    let reached = all.reached k unit state its at in
    let sound = c.events_lead_to_sound_states.ensures.sound unit.bounds reached.0 state reached.1 in
    let begun = c.beginnings_of_beginnings_begin.ensures.further q.seen seen.pass.seen state.history seen.begins
    (sound.hold.seen seen.group seen.place seen.pass seen.stands) in
    c.changes_rest_on_their_points.ensures.done n p q job op state.history made begun

pub returns-clause-looked : goal.returns-clause-looked
returns-clause-looked c s states k unit state answer p q op all its at seen_so seen =
    let reached = all.reached k unit state its at in
    let sound = c.events_lead_to_sound_states.ensures.sound unit.bounds reached.0 state reached.1 in
    let further = c.beginnings_of_beginnings_begin.ensures.further in
    let begun = further q.seen seen.pass.seen state.history seen.begins (sound.hold.seen seen.group seen.place seen.pass seen.stands) in
    let marked = c.looks_mark_their_points.ensures.marked answer p q op seen_so in
    let rests = c.looks_rest_on_their_points.ensures.at answer p q op state.history seen_so begun in
    look_rests answer p q op state.history rests.0 rests.1 rests.2 marked (further p.seen q.seen state.history marked.seen begun)
