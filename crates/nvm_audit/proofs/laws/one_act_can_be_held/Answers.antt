use Rattle.nvm_audit.proofs.OneActHeld as act
use Rattle.nvm_audit.proofs.laws.one_act_can_be_held.Goals as goal

pub returns-clause-with_entry : goal.returns-clause-with_entry
returns-clause-with_entry c =
    act.with_entry c.parts_keep_their_kind.ensures.look c.parts_of_jobs.ensures.part c.parts_of_jobs.ensures.covered
    c.shapes_by_plan.ensures.ready c.parts_of_jobs.ensures.known c.parts_keep_their_kind.ensures.deallocate c.ready_jobs.ensures.ready
    c.units_met_are_those_reached.ensures.known c.units_met_are_those_reached.ensures.few c.each_unit_has_one_place.ensures.place
    c.each_unit_has_one_place.ensures.one c.each_command_has_a_status.ensures.shape

pub returns-clause-without : goal.returns-clause-without
returns-clause-without c =
    act.without c.parts_keep_their_kind.ensures.look c.parts_of_jobs.ensures.part c.parts_of_jobs.ensures.covered
    c.shapes_by_plan.ensures.ready c.parts_of_jobs.ensures.known c.parts_keep_their_kind.ensures.deallocate c.ready_jobs.ensures.ready
    c.units_met_are_those_reached.ensures.known c.units_met_are_those_reached.ensures.few c.each_unit_has_one_place.ensures.place
    c.each_unit_has_one_place.ensures.one c.each_command_has_a_status.ensures.shape
