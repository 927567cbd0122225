use Rattle.std.proofs.Common.{arith}
use Rattle.nvm_plan.specs.JobPart.{job_part_in}
use Rattle.nvm_plan.proofs.JobParts.{some_part}
use Rattle.nvm_plan.proofs.ReachedLbas.{part_by_lowest}
use Rattle.nvm_plan.proofs.reached.has_part.Goals as goal

pub returns-then-unit-units : goal.returns-then-unit-units
returns-then-unit-units c = (
  (λ no. absurd (cc no)),
  (λ there.
      let ns = c.args.geometry.now in
      let its = some_part (job_part_in ns c.args.job.now c.args.unit) there in
      let known = c.parts_of_jobs.ensures.known ns c.args.job.now c.args.unit its.0 its.1 in
      let below = c.units_met_are_those_reached.ensures.known ns known.1 c.args.unit known.3 in
      absurd (omega (arith, below, c.if-unit-units.true, c.units.ensures.value))),
)

pub returns : goal.returns
returns c =
    let ns = c.args.geometry.now in
    let job = c.args.job.now in
    let unit = c.args.unit in
    let place = c.unit_range-first in
    rw (c.unwrap_or.ensures, c.from.ensures) (part_by_lowest ns job unit (c.ready_jobs.ensures.operation ns job c.requires)
    (λ op. c.ready_jobs.ensures.range ns job op c.requires) (λ op. c.units_met_are_those_reached.ensures.met ns op unit)
    (λ op. c.parts_of_jobs.ensures.part ns job op unit c.requires) (c.parts_of_jobs.ensures.known ns job unit)
    place.result.0 place.result.1 c.reached_from-found.result place.ensures (λ op. (rw c.large.ensures at c.reached_from-found.ensures.lowest) op))
