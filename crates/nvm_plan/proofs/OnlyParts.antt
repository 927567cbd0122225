-- A job that lies in one unit has one part, which is all that it asks for.
use Rattle.std.proofs.Common.{◌≡◌, ℕ, ◌+◌, ◌*◌, ◌<◌, ◌≤◌, [], ◌∷◌, List, Option, Some, None, IfSome, refl, sym, ap, subst, ◌∙◌, arith}
use Rattle.std.specs.List.{Contains}
use Rattle.nvm_record.specs.Deeds.{IsOnRange}
use Rattle.nvm_record.specs.Step.{Deed, HasData, HasRangesWithin, Operation, pairs}
use Rattle.nvm_record.specs.declared.command.Command.{Command}
use Rattle.nvm_record.specs.declared.op.Op.{Op}
use Rattle.nvm_record.specs.declared.op.Op.TheVariants.{Write, Compare}
use Rattle.nvm_geometry.specs.Boundaries.{unit_number}
use Rattle.nvm_geometry.specs.Limits.{LiesInUnit}
use Rattle.nvm_geometry.specs.Namespace.{Namespace}
use Rattle.nvm_geometry.specs.Parts.{part_in, units_met}
use Rattle.nvm_plan.specs.Checks.{refusal_of}
use Rattle.nvm_plan.specs.Fits.{FitsNamespace, IsWholeBody}
use Rattle.nvm_plan.specs.JobPart.{job_part_in, job_units}
use Rattle.nvm_plan.specs.LentPart.{part_operation_of}
use Rattle.nvm_plan.specs.OnlyPart.{IsOnlyPart}
use Rattle.nvm_plan.specs.Operation.{fused_operation, job_operation_of, on_range, operation_of_body}
use Rattle.nvm_plan.specs.declared.job.Body.{Body}
use Rattle.nvm_plan.specs.declared.job.Body.TheVariants.{Pair}
use Rattle.nvm_plan.specs.declared.job.Job.{Job}
use Rattle.nvm_plan.specs.declared.lent_part.LentPart.{LentPart}

-- a job of the body, by some host
abbrev pub job_of : Body → Job
job_of body = record { host = 1; body = body }

pub job_of_fits : (ns : Namespace) (body : Body) → IsWholeBody ns.block_size body → FitsNamespace ns (job_of body)
job_of_fits ns body whole = record { host = omega arith; host_end = omega arith; body = whole }

pub operation_of_pair : (ns : Namespace) (c d : Command) → c.op ≡ Compare → d.op ≡ Write
    → operation_of_body ns (Pair c d) ≡ Some (on_range c (pairs c.payload d.payload))
operation_of_pair ns c d compare write =
    subst (λ (op : Op). fused_operation op d.op c d ≡ Some (on_range c (pairs c.payload d.payload))) (sym compare)
    (subst (λ (op : Op). fused_operation Compare op c d ≡ Some (on_range c (pairs c.payload d.payload))) (sym write) refl)

-- what is lent of a range that lies in one unit lies there
pub whole_in_unit : (ns : Namespace) (slba blocks : ℕ) (lent : Option LentPart) → LiesInUnit ns slba blocks
    → IfSome lent (λ part. (part_operation_of part).first ≡ slba) → IfSome lent (λ part. (part_operation_of part).blocks ≡ blocks)
    → IfSome lent (λ part. LiesInUnit ns (part_operation_of part).first (part_operation_of part).blocks)
whole_in_unit ns slba blocks None lies first_is blocks_are = tt
whole_in_unit ns slba blocks (Some part) lies first_is blocks_are =
    subst (λ (first : ℕ). LiesInUnit ns first (part_operation_of part).blocks) (sym first_is) (subst (LiesInUnit ns slba) (sym blocks_are) lies)

-- The whole operation of a job to which no check applies is its only part, where it lies in one unit.
pub one_part : (ns : Namespace) (job : Job) (op : Operation) → refusal_of ns job ≡ None → job_operation_of ns job ≡ Some op
    → 0 < op.blocks → op.first + op.blocks ≤ ns.nsze → LiesInUnit ns op.first op.blocks → IsOnRange op.deed → HasData (op.blocks * ns.block_size) op.deed
    → ((o : Operation) → job_operation_of ns job ≡ Some o → job_units ns job ≡ units_met ns o)
    → ((o : Operation) (unit : ℕ) → job_operation_of ns job ≡ Some o → Contains (units_met ns o) unit → job_part_in ns job unit ≡ Some (part_in ns o unit))
    → ((o : Operation) → 0 < o.blocks → o.first + o.blocks ≤ ns.nsze → LiesInUnit ns o.first o.blocks → HasRangesWithin o.first o.blocks o.deed
    → units_met ns o ≡ unit_number ns o.first ∷ [])
    → ((o : Operation) → 0 < o.blocks → o.first + o.blocks ≤ ns.nsze → LiesInUnit ns o.first o.blocks → HasData (o.blocks * ns.block_size) o.deed
    → HasRangesWithin o.first o.blocks o.deed → part_in ns o (unit_number ns o.first) ≡ o)
    → ((first blocks : ℕ) (deed : Deed) → IsOnRange deed → HasRangesWithin first blocks deed)
    → IsOnlyPart ns job (unit_number ns op.first) op
one_part ns job op free is some inside lies on_range has_data units part met whole within =
    let within_op = within op.first op.blocks op.deed on_range in
    let met_op = met op some inside lies within_op in
    let unit = unit_number ns op.first in
    let here : Contains (unit ∷ []) unit = (0, omega arith, refl) in
    record {
      free = free;
      units = units op is ∙ met_op;
      in_unit = part op unit is (subst (λ (us : List ℕ). Contains us unit) (sym met_op) here) ∙ ap (λ (o : Operation). Some o) (whole op some inside lies has_data within_op);
    }
