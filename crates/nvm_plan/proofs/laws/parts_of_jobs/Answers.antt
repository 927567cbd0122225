use Rattle.std.proofs.Common.{sym}
use Rattle.nvm_plan.proofs.JobParts.{has_part, has_units, part_is_there, units_are, nothing_refused, part_covered}
use Rattle.nvm_plan.proofs.laws.parts_of_jobs.Goals as goal

pub returns-clause-part : goal.returns-clause-part
returns-clause-part c ns job op unit free stands met =
    let inside = c.ready_jobs.ensures.range ns job op free stands in
    part_is_there ns job op unit free stands ((c.units_met_are_those_reached.ensures.tested ns op unit inside).0 met)

pub returns-clause-known : goal.returns-clause-known
returns-clause-known c ns job unit part here =
    let has = has_part ns job unit part here in
    let inside = c.ready_jobs.ensures.range ns job has.op has.free has.is in
    (has.free, has.op, has.is, (c.units_met_are_those_reached.ensures.tested ns has.op unit inside).1 has.met, sym has.part_is)

pub returns-clause-units : goal.returns-clause-units
returns-clause-units c = units_are

pub returns-clause-refused : goal.returns-clause-refused
returns-clause-refused c = nothing_refused

pub returns-clause-deallocated : goal.returns-clause-deallocated
returns-clause-deallocated c ns job op ranges unit free stands is =
    let whole = c.ready_jobs.ensures.ranges ns job op ranges free stands is in
    rw (units_are ns job op free stands, whole.0) (c.ranges_meet_their_units.ensures.met ns ranges unit whole.1)

pub returns-clause-inside : goal.returns-clause-inside
returns-clause-inside c ns job unit there =
    let has = has_units ns job unit there in
    c.units_met_are_those_reached.ensures.known ns has.0 unit has.1

pub returns-clause-covered : goal.returns-clause-covered
returns-clause-covered c ns job unit place part fits here lies =
    let has = has_part ns job unit part here in
    let inside = c.ready_jobs.ensures.range ns job has.op has.free has.is in
    let met = (c.units_met_are_those_reached.ensures.tested ns has.op unit inside).1 has.met in
    let payload = c.jobs_that_fit_have_their_data.ensures ns job has.op fits has.free has.is in
    part_covered ns has.op part unit place has.part_is (c.parts_lie_in_their_units.ensures.some ns has.op unit inside met) lies.size
    (c.parts_lie_in_their_units.ensures.lies ns has.op unit place.first place.blocks inside lies.lbas met)
    (c.parts_lie_in_their_units.ensures.payload ns has.op unit payload)
    (c.parts_lie_in_their_units.ensures.ranges ns has.op unit inside met)
