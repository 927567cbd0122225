-- What is left of the units in which a job has a part.
use Rattle.std.specs.Prelude.{◌≡◌, ℕ, ◌+◌, ◌<◌, List, [], ◌∷◌, Option, Some, None}
use Rattle.nvm_geometry.specs.Boundaries.{unit_number}
use Rattle.nvm_geometry.specs.Namespace.{Namespace}
use Rattle.nvm_plan.specs.declared.job.Job.{Job}
use Rattle.nvm_plan.specs.Checks.{refusal_of}
use Rattle.nvm_plan.specs.JobPart.{job_units_from}

-- the units that are left, ascending, from that of this LBA on
abbrev pub units_left : Namespace → Job → Option ℕ → List ℕ
units_left ns job None = []
units_left ns job (Some lba) = unit_number ns lba ∷ job_units_from ns job (unit_number ns lba + 1)

-- No check applies to the job, and the LBA is one of the namespace's, if there is one.
abbrev pub IsFoundIn : Namespace → Job → Option ℕ → Type 0
IsFoundIn ns job None = Unit {0}
IsFoundIn ns job (Some lba) = (refusal_of ns job ≡ None) × (lba < ns.nsze)
