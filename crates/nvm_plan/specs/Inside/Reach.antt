-- What a job's operation has to do with, in its command's own words.
use Rattle.std.specs.Prelude.{◌≡◌, ◌↔◌, ℕ, ◌+◌, ◌^◌, ◌<◌, ◌≤◌, nat_le, nat_lt, Bool, ◌&&◌, [], ◌∷◌, All, Option, Some, IfNone, IfSome}
use Rattle.nvm_record.specs.Deeds.{IsOnRange}
use Rattle.nvm_record.specs.PayloadRef.{lent_bytes}
use Rattle.nvm_record.specs.Ranges.{ranges_have, ranges_of}
use Rattle.nvm_record.specs.Step.{Operation, reaches}
use Rattle.nvm_geometry.specs.Boundaries.{unit_number}
use Rattle.nvm_geometry.specs.Deallocation.{deallocation}
use Rattle.nvm_geometry.specs.Lowest.{IsLowest}
use Rattle.nvm_geometry.specs.Namespace.{Namespace}
use Rattle.nvm_plan.specs.JobPart.{job_units_from}
use Rattle.nvm_plan.specs.Operation.{job_operation_of}
use Rattle.nvm_plan.specs.declared.job.Job.{Job}
use Rattle.nvm_plan.specs.declared.reach.Reach.{Reach}
use Rattle.nvm_plan.specs.declared.reach.Reach.TheVariants.{Range, Ranges}

-- The operation has to do with all LBAs of its range, or is the Deallocate of these ranges.
abbrev pub IsReachOf : Namespace → Reach → Operation → Type 0
IsReachOf ns (Range first blocks) op = IsOnRange op.deed × (op.first ≡ first) × (op.blocks ≡ blocks)
IsReachOf ns (Ranges ranges) op = op ≡ deallocation ns (ranges_of (lent_bytes ranges))

-- No range ends above the largest namespace.
abbrev pub EndsLow : Reach → Type 0
EndsLow (Range first blocks) = first + blocks ≤ 2 ^ 40
EndsLow (Ranges ranges) = All (λ r. r.first + r.blocks ≤ 2 ^ 40) (ranges_of (lent_bytes ranges))

-- the LBAs that are meant
abbrev pub reach_has : Reach → ℕ → Bool
reach_has (Range first blocks) lba = nat_le first lba && nat_lt lba (first + blocks)
reach_has (Ranges ranges) lba = ranges_have (ranges_of (lent_bytes ranges)) lba

-- The units from `start` on are those of the LBAs from `from` on.
abbrev pub AreFrom : Namespace → ℕ → ℕ → Type 0
AreFrom ns start from = (x : ℕ) → x < ns.nsze → (start ≤ unit_number ns x) ↔ (from ≤ x)

-- It is the lowest LBA from `from` on that the job reaches, and so in the first of the units with a part there.
pub record IsReachedFrom (ns : Namespace) (job : Job) (from : ℕ) (found : Option ℕ) : Type 0 where
  pub lowest : (op : Operation) → job_operation_of ns job ≡ Some op → IsLowest (reaches op) from found
  pub known : IfSome found (λ lba. lba < ns.nsze)
  pub first : (start : ℕ) → AreFrom ns start from
      → IfSome found (λ lba. job_units_from ns job start ≡ unit_number ns lba ∷ job_units_from ns job (unit_number ns lba + 1))
  pub none : (start : ℕ) → AreFrom ns start from → IfNone found (job_units_from ns job start ≡ [])
