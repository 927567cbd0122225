-- What a job must be before it is done or recorded (own).
use Rattle.std.specs.Prelude.{◌⊎◌, ℕ, ◌≤◌}
use Rattle.nvm_record.specs.Entry.{IsWhole, IsUnknownDataset}
use Rattle.nvm_geometry.specs.Namespace.{Namespace}
use Rattle.nvm_plan.specs.declared.job.Body.{Body}
use Rattle.nvm_plan.specs.declared.job.Body.TheVariants.{Single, Pair}
use Rattle.nvm_plan.specs.declared.job.Job.{Job}
use Rattle.nvm_plan.specs.Profile.{IsFusedPair}

-- a run has at most 64 hosts, numbered from 1
abbrev pub most_hosts : ℕ
most_hosts = 64

-- Each command has exactly the data that it calls for and a proper opcode, or is a Dataset Management as an unknown opcode, and
-- two of them are a pair.
abbrev pub IsWholeBody : ℕ → Body → Type 0
IsWholeBody size (Single c) = IsWhole size c ⊎ IsUnknownDataset c
IsWholeBody size (Pair c d) = IsWhole size c × IsWhole size d × IsFusedPair c d

-- The host is one of the namespace's, and the body is whole, in its blocks.
pub record FitsNamespace (ns : Namespace) (job : Job) : Type 0 where
  pub host : 1 ≤ job.host
  pub host_end : job.host ≤ most_hosts
  pub body : IsWholeBody ns.block_size job.body
