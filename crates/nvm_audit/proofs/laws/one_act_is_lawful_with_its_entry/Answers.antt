use Rattle.nvm_audit.proofs.OneActs as acts
use Rattle.nvm_audit.proofs.laws.one_act_is_lawful_with_its_entry.Goals as goal

pub returns-clause-lawful : goal.returns-clause-lawful
returns-clause-lawful c r op unit held one =
    acts.lawful c.parts_keep_their_kind.ensures.pair c.parts_keep_their_kind.ensures.look c.single_act_succeeds.ensures c.parts_of_jobs.ensures.part
    c.shapes_by_plan.ensures.ready r op unit held one

pub returns-clause-left_out : goal.returns-clause-left_out
returns-clause-left_out c r op unit held one =
    acts.left_out c.parts_keep_their_kind.ensures.pair c.parts_keep_their_kind.ensures.look c.single_act_succeeds.ensures c.parts_of_jobs.ensures.part
    c.shapes_by_plan.ensures.ready r op unit held one c.parts_of_jobs.ensures.units c.parts_of_jobs.ensures.inside
