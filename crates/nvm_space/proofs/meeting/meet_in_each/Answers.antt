use Rattle.std.proofs.Common.{◌≡◌, ◌<◌, ◌≤◌, ◌∙◌, length, arith}
use Rattle.nvm_space.proofs.Lists.{at_index}
use Rattle.nvm_space.proofs.Meetings.{none_met, met_one_more, all_met, still_of_all}
use Rattle.nvm_space.proofs.meeting.meet_in_each.Goals as goal

pub loop-place-init : goal.loop-place-init
loop-place-init g c = record { one = λ n all. all; other = λ n all. all; met = none_met c.args.one.now.items c.args.other.now.items }

pub meet-requires-clause-one : goal.meet-requires-clause-one
meet-requires-clause-one g c =
    let one = c.loop-place.invariant.one c.requires.one.0 c.requires.one.1 in
    let other = c.loop-place.invariant.other c.requires.other.0 c.requires.other.1 in
    let lt : c.loop-place.place < length c.args.units.now = c.loop-place-test.true in
    let unit = at_index c.args.units.now c.loop-place.place c.index-units-place.result lt c.index-units-place.is in
    let count : length c.loop-place.one.items ≡ length c.args.units.now = one.count in
    let other_count : length c.loop-place.other.items ≡ length c.args.units.now = other.count in
    let pass = at_index c.loop-place.one.items c.loop-place.place c.index_mut.result.now (omega arith) c.index_mut.ensures.value in
    let other_pass = at_index c.loop-place.other.items c.loop-place.place c.index_mut-in-loop-place.result.now (omega arith) c.index_mut-in-loop-place.ensures.value in
    (one.each c.loop-place.place c.index-units-place.result c.index_mut.result.now unit pass).0

pub meet-requires-clause-other : goal.meet-requires-clause-other
meet-requires-clause-other g c =
    let one = c.loop-place.invariant.one c.requires.one.0 c.requires.one.1 in
    let other = c.loop-place.invariant.other c.requires.other.0 c.requires.other.1 in
    let lt : c.loop-place.place < length c.args.units.now = c.loop-place-test.true in
    let unit = at_index c.args.units.now c.loop-place.place c.index-units-place.result lt c.index-units-place.is in
    let count : length c.loop-place.one.items ≡ length c.args.units.now = one.count in
    let other_count : length c.loop-place.other.items ≡ length c.args.units.now = other.count in
    let pass = at_index c.loop-place.one.items c.loop-place.place c.index_mut.result.now (omega arith) c.index_mut.ensures.value in
    let other_pass = at_index c.loop-place.other.items c.loop-place.place c.index_mut-in-loop-place.result.now (omega arith) c.index_mut-in-loop-place.ensures.value in
    (other.each c.loop-place.place c.index-units-place.result c.index_mut-in-loop-place.result.now unit other_pass).0

pub loop-place-preserved : goal.loop-place-preserved
loop-place-preserved g c =
    let one = c.loop-place.invariant.one c.requires.one.0 c.requires.one.1 in
    let other = c.loop-place.invariant.other c.requires.other.0 c.requires.other.1 in
    let lt : c.loop-place.place < length c.args.units.now = c.loop-place-test.true in
    let unit = at_index c.args.units.now c.loop-place.place c.index-units-place.result lt c.index-units-place.is in
    let count : length c.loop-place.one.items ≡ length c.args.units.now = one.count in
    let other_count : length c.loop-place.other.items ≡ length c.args.units.now = other.count in
    let pass = at_index c.loop-place.one.items c.loop-place.place c.index_mut.result.now (omega arith) c.index_mut.ensures.value in
    let other_pass = at_index c.loop-place.other.items c.loop-place.place c.index_mut-in-loop-place.result.now (omega arith) c.index_mut-in-loop-place.ensures.value in
    record {
      one = λ n was.
          let all = c.loop-place.invariant.one n was in
          still_of_all c.args.units.now n c.loop-place.place c.loop-place.one.items c.index-units-place.result c.meet.new.one all unit c.meet.ensures.one
          (c.meet.ensures.number ∙ (all.each c.loop-place.place c.index-units-place.result c.index_mut.result.now unit pass).1);
      other = λ n was.
          let all = c.loop-place.invariant.other n was in
          still_of_all c.args.units.now n c.loop-place.place c.loop-place.other.items c.index-units-place.result c.meet.new.other all unit c.meet.ensures.other
          (c.meet.ensures.other_number ∙ (all.each c.loop-place.place c.index-units-place.result c.index_mut-in-loop-place.result.now unit other_pass).1);
      met = met_one_more c.loop-place.place c.args.one.now.items c.args.other.now.items c.loop-place.one.items c.loop-place.other.items _ _ c.meet.new.one c.meet.new.other
          c.loop-place.invariant.met pass other_pass c.meet.ensures.met c.meet.ensures.one_proper c.meet.ensures.other_proper;
    }

pub returns-clause-met : goal.returns-clause-met
returns-clause-met g c =
    let one = c.requires.one.1 in
    let all : length c.args.units.now ≤ c.loop-place.place = omega (arith, c.loop-place-test.false) in
    let count : length c.args.one.now.items ≡ length c.args.units.now = one.count in
    all_met c.loop-place.place c.args.one.now.items c.args.other.now.items c.loop-place.one.items c.loop-place.other.items c.loop-place.invariant.met (omega arith)
