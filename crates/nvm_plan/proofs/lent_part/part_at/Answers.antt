use Rattle.std.proofs.Common.{◌≡◌, ◌<◌, Some, sym, subst, arith}
use Rattle.nvm_record.specs.declared.op.Op.{Op}
use Rattle.nvm_record.specs.PayloadRef.{lent_bytes}
use Rattle.nvm_record.specs.Ranges.{ranges_of}
use Rattle.nvm_geometry.specs.Boundaries.{unit_number}
use Rattle.nvm_geometry.specs.Parts.{piece_in}
use Rattle.nvm_store.specs.Operation.{deallocate_operation}
use Rattle.nvm_plan.specs.JobPart.{job_part_in}
use Rattle.nvm_plan.specs.LentPart.{part_operation_of}
use Rattle.nvm_plan.specs.Operation.{operation_of_body, single_operation}
use Rattle.nvm_plan.specs.declared.job.Body.{Body}
use Rattle.nvm_plan.proofs.JobParts.{deallocated_there, part_is_lent, some_part, there_covered}
use Rattle.nvm_plan.proofs.lent_part.part_at.Goals as goal

pub returns-in-Dataset-clause-part : goal.returns-in-Dataset-clause-part
returns-in-Dataset-clause-part c =
    let ns = c.args.geometry.now in
    let unit = unit_number ns c.args.lba in
    let its = some_part (job_part_in ns c.args.job.now unit) c.requires.there in
    let known = c.parts_of_jobs.ensures.known ns c.args.job.now unit its.0 its.1 in
    let below = c.units_met_are_those_reached.ensures.known ns known.1 unit known.3 in
    let some : 0 < ns.nsze = omega (arith, c.requires.known) in
    let same = c.each_unit_has_one_place.ensures.one ns unit c.unit_range-first.result.0 c.unit_range-first.result.1 (piece_in ns 0 ns.nsze unit).first (piece_in ns 0 ns.nsze unit).blocks
    c.unit_range-first.ensures (c.each_unit_has_one_place.ensures.place ns unit some below) in
    part_is_lent ns c.args.job.now unit (deallocate_operation c.unit_range-first.result.0 c.unit_range-first.result.1 (ranges_of (lent_bytes c.deallocated.result))) c.requires.there
    (λ op is. deallocated_there ns c.in-Dataset.deallocate c.in-Single.command (lent_bytes c.deallocated.result) unit c.unit_range-first.result.0 c.unit_range-first.result.1 op c.deallocated.ensures same
    (subst (λ (o : Op). single_operation ns o c.in-Single.command ≡ Some op) c.in-Dataset.is (subst (λ (b : Body). operation_of_body ns b ≡ Some op) c.in-Single.is is)))

pub returns-in-Dataset-clause-covered : goal.returns-in-Dataset-clause-covered
returns-in-Dataset-clause-covered c =
    let ns = c.args.geometry.now in
    let unit = unit_number ns c.args.lba in
    there_covered ns c.args.job.now unit (deallocate_operation c.unit_range-first.result.0 c.unit_range-first.result.1 (ranges_of (lent_bytes c.deallocated.result)))
    (λ place part here lies. c.parts_of_jobs.ensures.covered ns c.args.job.now unit place part c.requires.fits here lies) (returns-in-Dataset-clause-part c)

pub returns-in-Some-clause-part : goal.returns-in-Some-clause-part
returns-in-Some-clause-part c =
    let ns = c.args.geometry.now in
    let unit = unit_number ns c.args.lba in
    part_is_lent ns c.args.job.now unit (part_operation_of c.single_part.result) c.requires.there
    (λ op is. c.single_part.ensures ns unit op (sym c.block_size-size.ensures.value) (rw c.from.ensures at c.in-Some.ensures.first) (rw c.from.ensures at c.in-Some.ensures.blocks)
    (subst (λ (b : Body). operation_of_body ns b ≡ Some op) c.in-Single.is is))

pub returns-in-Some-clause-covered : goal.returns-in-Some-clause-covered
returns-in-Some-clause-covered c =
    let ns = c.args.geometry.now in
    let unit = unit_number ns c.args.lba in
    there_covered ns c.args.job.now unit (part_operation_of c.single_part.result)
    (λ place part here lies. c.parts_of_jobs.ensures.covered ns c.args.job.now unit place part c.requires.fits here lies) (returns-in-Some-clause-part c)

pub returns-in-Some-piece_at-clause-part : goal.returns-in-Some-piece_at-clause-part
returns-in-Some-piece_at-clause-part c =
    let ns = c.args.geometry.now in
    let unit = unit_number ns c.args.lba in
    part_is_lent ns c.args.job.now unit (part_operation_of c.pair_part.result) c.requires.there
    (λ op is. c.pair_part.ensures ns unit op (sym c.block_size-size.ensures.value) (rw c.from-in-Pair.ensures at c.in-Some-piece_at.ensures.first) (rw c.from-in-Pair.ensures at c.in-Some-piece_at.ensures.blocks)
    (subst (λ (b : Body). operation_of_body ns b ≡ Some op) c.in-Pair.is is))

pub returns-in-Some-piece_at-clause-covered : goal.returns-in-Some-piece_at-clause-covered
returns-in-Some-piece_at-clause-covered c =
    let ns = c.args.geometry.now in
    let unit = unit_number ns c.args.lba in
    there_covered ns c.args.job.now unit (part_operation_of c.pair_part.result)
    (λ place part here lies. c.parts_of_jobs.ensures.covered ns c.args.job.now unit place part c.requires.fits here lies) (returns-in-Some-piece_at-clause-part c)
