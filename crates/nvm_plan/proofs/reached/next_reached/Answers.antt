use Rattle.std.proofs.Common.{◌+◌}
use Rattle.nvm_geometry.specs.Boundaries.{unit_number}
use Rattle.nvm_plan.proofs.ReachedLbas.{from_end}
use Rattle.nvm_plan.proofs.reached.next_reached.Goals as goal

pub returns-clause-first : goal.returns-clause-first
returns-clause-first c =
    let ns = c.args.geometry.now in
    c.reached_from.ensures.first (unit_number ns c.args.lba + 1)
    (from_end ns c.args.lba c.unit_end.result (c.units_number_the_namespace.ensures.ascending ns) c.unit_end.ensures.next c.unit_end.ensures.lies)

pub returns-clause-none : goal.returns-clause-none
returns-clause-none c =
    let ns = c.args.geometry.now in
    c.reached_from.ensures.none (unit_number ns c.args.lba + 1)
    (from_end ns c.args.lba c.unit_end.result (c.units_number_the_namespace.ensures.ascending ns) c.unit_end.ensures.next c.unit_end.ensures.lies)
