use Rattle.nvm_audit.proofs.RecordRuns as records
use Rattle.nvm_audit.proofs.laws.lawful_units_are_runs.Goals as goal

pub returns : goal.returns
returns c r lawful unit history there =
    records.runs c.parts_keep_their_kind.ensures.look c.parts_of_jobs.ensures.part c.parts_of_jobs.ensures.covered
    c.shapes_by_plan.ensures.ready r lawful unit history there c.there_is_a_placed_run.ensures.placed
    c.placed_runs_are_runs.ensures c.placed_runs_keep_order.ensures
