use Rattle.nvm_audit.proofs.JobOutcomes.{outcome_of_done}
use Rattle.nvm_audit.proofs.laws.done_jobs_are_outcomes.Goals as goal

pub returns : goal.returns
returns c r worker k work d lawful there at =
    let steps = c.answers_of_the_step_are_replies.ensures in
    let outcomes = c.outcomes_by_plan.ensures in
    outcome_of_done
    (record { looked = steps.looked; done = steps.done; failed = steps.failed; no_memory = steps.no_memory; full = steps.full })
    (record { ready = outcomes.ready; refused = outcomes.refused })
    (record { range = c.ready_jobs.ensures.range; units = c.ready_jobs.ensures.units })
    c.parts_keep_their_kind.ensures.pair c.pieces_stand_in_line.ensures.in_line c.whole_ranges_are_reached.ensures.units
    c.units_met_are_those_reached.ensures.known c.units_met_are_those_reached.ensures.few
    c.each_command_has_a_status.ensures.shape r lawful worker work k d there at
