use Rattle.nvm_audit.proofs.Known.{known_unit}
use Rattle.nvm_audit.proofs.unit_audit.known_units.Goals as goal

pub returns : goal.returns
returns c = λ r unit history held shaped at.
    known_unit c.each_unit_has_one_place.ensures.one c.parts_of_jobs.ensures.part c.shapes_by_plan.ensures.ready
    c.shapes_by_plan.ensures.refused c.ready_jobs.ensures.operation r held shaped unit history at
