use Rattle.std.proofs.Common.{inl}
use Rattle.nvm_plan.proofs.Unrefused.{ready_job, unrefused_job, pair_in_unit, range_inside, ranges_inside, pair_on_range}
use Rattle.nvm_plan.proofs.laws.ready_jobs.Goals as goal

pub returns-clause-ready : goal.returns-clause-ready
returns-clause-ready c = ready_job c.sharing_is_one_number.ensures.shares

pub returns-clause-unrefused : goal.returns-clause-unrefused
returns-clause-unrefused c = unrefused_job c.sharing_is_one_number.ensures.number

pub returns-clause-range : goal.returns-clause-range
returns-clause-range c ns job op h stands = (range_inside ns job op (ready_job c.sharing_is_one_number.ensures.shares ns job h) stands).0

pub returns-clause-some : goal.returns-clause-some
returns-clause-some c ns job op h stands = (range_inside ns job op (ready_job c.sharing_is_one_number.ensures.shares ns job h) stands).1

pub returns-clause-pair : goal.returns-clause-pair
returns-clause-pair c ns job op h stands pair =
    let ready = ready_job c.sharing_is_one_number.ensures.shares ns job h in
    let place = pair_in_unit ns job op ready stands pair in
    c.one_unit_is_one_part.ensures.unit ns op place.0 place.1 place.2 (c.whole_ranges_are_reached.ensures.ranges op.first op.blocks op.deed (pair_on_range op.deed pair))

pub returns-clause-units : goal.returns-clause-units
returns-clause-units c ns job op h stands whole =
    let ready = ready_job c.sharing_is_one_number.ensures.shares ns job h in
    let range = range_inside ns job op ready stands in
    c.units_met_are_those_reached.ensures.some ns op (range.1 (inl whole)) range.0 (c.whole_ranges_are_reached.ensures.ranges op.first op.blocks op.deed whole)

pub returns-clause-ranges : goal.returns-clause-ranges
returns-clause-ranges c ns job op ranges h stands = ranges_inside ns job op ranges (ready_job c.sharing_is_one_number.ensures.shares ns job h) stands
