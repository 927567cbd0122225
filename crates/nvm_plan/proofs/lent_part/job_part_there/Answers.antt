use Rattle.std.proofs.Common.{◌≡◌, ℕ, subst, arith}
use Rattle.nvm_geometry.specs.Boundaries.{unit_number}
use Rattle.nvm_store.specs.declared.place.Place.{Place}
use Rattle.nvm_store.specs.Place.{IsCovered}
use Rattle.nvm_plan.specs.JobPart.{job_part_in}
use Rattle.nvm_plan.specs.LentPart.{part_operation_of}
use Rattle.nvm_plan.specs.UnitPlace.{IsUnitPlace}
use Rattle.nvm_plan.proofs.JobParts.{some_part}
use Rattle.nvm_plan.proofs.lent_part.job_part_there.Goals as goal

pub unit_range-first-requires : goal.unit_range-first-requires
unit_range-first-requires c =
    let ns = c.args.geometry.now in
    let its = some_part (job_part_in ns c.args.job.now c.args.unit) c.requires.there in
    let known = c.parts_of_jobs.ensures.known ns c.args.job.now c.args.unit its.0 its.1 in
    c.units_met_are_those_reached.ensures.known ns known.1 c.args.unit known.3

pub returns-clause-covered : goal.returns-clause-covered
returns-clause-covered c =
    let ns = c.args.geometry.now in
    let lent = part_operation_of c.part_at.result in
    let first = c.unit_range-first.result.0 in
    let here : unit_number ns first ≡ c.args.unit = c.unit_range-first.ensures.lies first (omega arith) (omega (arith, c.unit_range-first.ensures.some)) in
    subst (λ (unit : ℕ). (place : Place) → IsUnitPlace ns unit place → IsCovered place lent) here (rw c.large.ensures at c.part_at.ensures.covered)
