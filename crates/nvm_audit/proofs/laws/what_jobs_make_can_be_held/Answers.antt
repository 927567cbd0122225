use Rattle.nvm_audit.proofs.Held as held
use Rattle.nvm_audit.proofs.laws.what_jobs_make_can_be_held.Goals as goal

pub returns-clause-entries : goal.returns-clause-entries
returns-clause-entries c =
    held.entries c.parts_of_jobs.ensures.known c.parts_keep_their_kind.ensures.deallocate c.ready_jobs.ensures.ready
    c.parts_of_jobs.ensures.covered c.units_met_are_those_reached.ensures.known c.each_unit_has_one_place.ensures.place
    c.each_unit_has_one_place.ensures.one

pub returns-clause-done : goal.returns-clause-done
returns-clause-done c =
    held.done c.units_met_are_those_reached.ensures.known c.units_met_are_those_reached.ensures.few
    c.each_command_has_a_status.ensures.shape
