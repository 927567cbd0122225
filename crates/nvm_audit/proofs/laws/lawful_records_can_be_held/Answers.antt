use Rattle.nvm_audit.proofs.LawfulHeld as held
use Rattle.nvm_audit.proofs.laws.lawful_records_can_be_held.Goals as goal

pub returns : goal.returns
returns c r lawful room bodies few =
    held.held_whole c.parts_of_jobs.ensures.known c.parts_keep_their_kind.ensures.deallocate c.ready_jobs.ensures.ready
    c.parts_of_jobs.ensures.covered c.units_met_are_those_reached.ensures.known c.units_met_are_those_reached.ensures.few
    c.each_unit_has_one_place.ensures.place c.each_unit_has_one_place.ensures.one c.each_command_has_a_status.ensures.shape r lawful
    bodies room few
