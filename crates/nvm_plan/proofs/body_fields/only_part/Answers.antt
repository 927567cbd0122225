use Rattle.std.proofs.Common.{◌≡◌, ℕ, ◌+◌, ◌<◌, ◌≤◌, Some, IfSome, Option, None, sym, subst, refl, arith}
use Rattle.nvm_record.specs.Deeds.{IsOnRange}
use Rattle.nvm_record.specs.PayloadRef.{lent_bytes}
use Rattle.nvm_record.specs.Step.{Operation}
use Rattle.nvm_geometry.specs.Boundaries.{unit_number}
use Rattle.nvm_geometry.specs.Limits.{LiesInUnit}
use Rattle.nvm_geometry.specs.Namespace.{Namespace}
use Rattle.nvm_store.specs.declared.place.Place.{Place}
use Rattle.nvm_store.specs.Place.{IsCovered}
use Rattle.nvm_plan.specs.JobPart.{job_part_in}
use Rattle.nvm_plan.specs.LentPart.{part_operation_of}
use Rattle.nvm_plan.specs.OnlyPart.{IsOnlyPart, body_lent}
use Rattle.nvm_plan.specs.Operation.{operation_of_body}
use Rattle.nvm_plan.specs.Ready.{IsReadyBody}
use Rattle.nvm_plan.specs.UnitPlace.{IsUnitPlace}
use Rattle.nvm_plan.specs.declared.job.Body.{Body}
use Rattle.nvm_plan.specs.declared.job.Job.{Job}
use Rattle.nvm_plan.specs.declared.lent_part.LentPart.{LentPart}
use Rattle.nvm_plan.proofs.OnlyParts.{job_of, job_of_fits, one_part}
use Rattle.nvm_plan.proofs.body_fields.only_part.Goals as goal

-- what follows of the whole operation that is lent, where there is one
of_whole : (ns : Namespace) (given : Body) (lent : Option LentPart) (P : LentPart → Type 0)
    → ((part : LentPart) → IsReadyBody ns given → 0 < (part_operation_of part).blocks → operation_of_body ns given ≡ Some (part_operation_of part)
    → IsOnRange (part_operation_of part).deed → LiesInUnit ns (part_operation_of part).first (part_operation_of part).blocks → P part)
    → IfSome lent (λ part. IsReadyBody ns given) → IfSome lent (λ part. 0 < (part_operation_of part).blocks)
    → IfSome lent (λ part. operation_of_body ns given ≡ Some (part_operation_of part)) → IfSome lent (λ part. IsOnRange (part_operation_of part).deed)
    → IfSome lent (λ part. LiesInUnit ns (part_operation_of part).first (part_operation_of part).blocks) → IfSome lent P
of_whole ns given None P all ready some whole deed inside = tt
of_whole ns given (Some part) P all ready some whole deed inside = all part ready some whole deed inside

pub returns-clause-part : goal.returns-clause-part
returns-clause-part c =
    let ns = c.args.geometry.now in
    let given = body_lent c.args.fields (lent_bytes c.args.payload) (lent_bytes c.args.compared) in
    let its = c.ready_part.ensures in
    of_whole ns given c.ready_part.result
    (λ part. (job : Job) → job.body ≡ given → IsOnlyPart ns job (unit_number ns (part_operation_of part).first) (part_operation_of part))
    (λ part ready some whole deed inside job body.
    let op = part_operation_of part in
    let free = c.ready_jobs.ensures.unrefused ns job (subst (IsReadyBody ns) (sym body) ready) in
    let is = subst (λ (b : Body). operation_of_body ns b ≡ Some op) (sym body) whole in
    let plain_free = c.ready_jobs.ensures.unrefused ns (job_of given) ready in
    let has_data = c.jobs_that_fit_have_their_data.ensures ns (job_of given) op (job_of_fits ns given c.requires) plain_free whole in
    let below : op.first + op.blocks ≤ ns.nsze = c.ready_jobs.ensures.range ns job op free is in
    one_part ns job op free is some below inside deed has_data (λ o. c.parts_of_jobs.ensures.units ns job o free) (λ o unit. c.parts_of_jobs.ensures.part ns job o unit free)
    (c.one_unit_is_one_part.ensures.unit ns) (c.one_unit_is_one_part.ensures.part ns) c.whole_ranges_are_reached.ensures.ranges)
    its.ready its.some its.part its.deed its.inside

pub returns-clause-known : goal.returns-clause-known
returns-clause-known c =
    let ns = c.args.geometry.now in
    let given = body_lent c.args.fields (lent_bytes c.args.payload) (lent_bytes c.args.compared) in
    let its = c.ready_part.ensures in
    of_whole ns given c.ready_part.result (λ part. (part_operation_of part).first < ns.nsze)
    (λ part ready some whole deed inside.
    omega (arith, some, c.ready_jobs.ensures.range ns (job_of given) (part_operation_of part) (c.ready_jobs.ensures.unrefused ns (job_of given) ready) whole))
    its.ready its.some its.part its.deed its.inside

-- the only part lies in its unit
only_covered : (ns : Namespace) (given : Body) (lent : Option LentPart)
    → ((unit : ℕ) (place : Place) (part : Operation) → job_part_in ns (job_of given) unit ≡ Some part → IsUnitPlace ns unit place → IsCovered place part)
    → IfSome lent (λ part. (job : Job) → job.body ≡ given → IsOnlyPart ns job (unit_number ns (part_operation_of part).first) (part_operation_of part))
    → IfSome lent (λ part. (place : Place) → IsUnitPlace ns (unit_number ns (part_operation_of part).first) place → IsCovered place (part_operation_of part))
only_covered ns given None covered only = tt
only_covered ns given (Some part) covered only =
    λ place there. covered (unit_number ns (part_operation_of part).first) place (part_operation_of part) (only (job_of given) refl).in_unit there

pub returns-clause-covered : goal.returns-clause-covered
returns-clause-covered c =
    let ns = c.args.geometry.now in
    let given = body_lent c.args.fields (lent_bytes c.args.payload) (lent_bytes c.args.compared) in
    only_covered ns given c.ready_part.result
    (λ unit place part. c.parts_of_jobs.ensures.covered ns (job_of given) unit place part (job_of_fits ns given c.requires)) (returns-clause-part c)
