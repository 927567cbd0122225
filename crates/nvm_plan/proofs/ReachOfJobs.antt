-- The units that a job's operation meets, by what it has to do with.
use Rattle.std.proofs.Common.{◌≡◌, ℕ, ◌+◌, ◌≤◌, Option, Some, None, IsSome, refl, ap, subst, ◌∙◌}
use Rattle.nvm_record.specs.Deeds.{IsOnRange}
use Rattle.nvm_record.specs.Step.{Operation}
use Rattle.nvm_geometry.specs.Namespace.{Namespace}
use Rattle.nvm_geometry.specs.Parts.{units_met, units_of_range}
use Rattle.nvm_plan.specs.declared.job.Job.{Job}
use Rattle.nvm_plan.specs.declared.reach.Reach.{Reach}
use Rattle.nvm_plan.specs.declared.reach.Reach.TheVariants.{Range}
use Rattle.nvm_plan.specs.Inside.Reach.{IsReachOf}
use Rattle.nvm_plan.specs.JobPart.{job_units}
use Rattle.nvm_plan.specs.Operation.{job_operation_of}

pub some_operation : (o : Option Operation) → IsSome o → (op : Operation) × (o ≡ Some op)
some_operation None some = absurd (cc some)
some_operation (Some op) some = (op, refl)

-- what is known of a job to which no check applies
module _ (ns : Namespace) (job : Job) (reach : Reach) (stands : IsSome (job_operation_of ns job))
    (reached : (op : Operation) → job_operation_of ns job ≡ Some op → IsReachOf ns reach op) where
  abbrev op : Operation
  op = (some_operation (job_operation_of ns job) stands).0

  is : job_operation_of ns job ≡ Some op
  is = (some_operation (job_operation_of ns job) stands).1

  of : (other : Reach) → reach ≡ other → IsReachOf ns other op
  of other e = subst (λ (r : Reach). IsReachOf ns r op) e (reached op is)

  pub range_inside : (first blocks : ℕ) → reach ≡ Range first blocks
      → ((o : Operation) → job_operation_of ns job ≡ Some o → o.first + o.blocks ≤ ns.nsze) → first + blocks ≤ ns.nsze
  range_inside first blocks e inside =
      let its = of (Range first blocks) e in
      rw (its.1, its.2) at (inside op is)

  pub range_units : (first blocks : ℕ) → reach ≡ Range first blocks
      → ((o : Operation) → job_operation_of ns job ≡ Some o → job_units ns job ≡ units_met ns o)
      → ((o : Operation) → IsOnRange o.deed → units_met ns o ≡ units_of_range ns o.first o.blocks)
      → job_units ns job ≡ units_of_range ns first blocks
  range_units first blocks e units met =
      let its = of (Range first blocks) e in
      units op is ∙ (met op its.0 ∙ (ap (λ (n : ℕ). units_of_range ns n op.blocks) its.1 ∙ ap (λ (n : ℕ). units_of_range ns first n) its.2))
