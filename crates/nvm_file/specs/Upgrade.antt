-- The second version of a record of the first (own). Nothing but the version changes. What the first version keeps as an
-- unknown opcode 09h is a Dataset Management in the second, whose ranges the record doesn't have: a record with one has no
-- second version.
use Rattle.std.specs.Prelude.{◌≡◌, ◌⊎◌, ℕ, ◌<◌, List}
use Rattle.nvm_record.specs.declared.command.Command.{Command}
use Rattle.nvm_record.specs.declared.op.Op.TheVariants.{Other}
use Rattle.nvm_record.specs.Lists.{IsAt}
use Rattle.nvm_plan.specs.declared.job.Body.{Body}
use Rattle.nvm_plan.specs.declared.job.Body.TheVariants.{Single, Pair}
use Rattle.nvm_plan.specs.declared.job.Job.{Job}
use Rattle.nvm_audit.specs.declared.version.Version.TheVariants.{Two}
use Rattle.nvm_audit.specs.RecordView.{RecordView}
use Rattle.nvm_file.specs.declared.upgrade_fault.UpgradeFault.{UpgradeFault}
use Rattle.nvm_file.specs.declared.upgrade_fault.UpgradeFault.TheVariants.{Dataset}

-- The command has opcode 09h as an unknown one.
abbrev pub IsUnknown : Command → Type 0
IsUnknown c = c.op ≡ Other 9

-- One of the commands has opcode 09h as an unknown one.
abbrev pub HasUnknown : Body → Type 0
HasUnknown (Single c) = IsUnknown c
HasUnknown (Pair c d) = IsUnknown c ⊎ IsUnknown d

-- No job has such a command.
abbrev pub AreKnown : List Job → Type 0
AreKnown jobs = (number : ℕ) (job : Job) → IsAt jobs number job → ¬ (HasUnknown job.body)

-- The job of this number has such a command, and is the first that does.
pub record IsFirstUnknown (jobs : List Job) (number : ℕ) : Type 0 where
  pub job : Job
  pub there : IsAt jobs number job
  pub unknown : HasUnknown job.body
  pub first : (earlier : ℕ) (other : Job) → earlier < number → IsAt jobs earlier other → ¬ (HasUnknown other.body)

-- Why there is no second version: the first job with such a command.
abbrev pub IsUpgradeFault : List Job → UpgradeFault → Type 0
IsUpgradeFault jobs (Dataset number) = IsFirstUnknown jobs number

-- the same record in the second version
abbrev pub second_version : RecordView → RecordView
second_version r =
    record {
      version = Two;
      namespace = r.namespace;
      limit = r.limit;
      workers = r.workers;
      jobs = r.jobs;
      units = r.units;
      done = r.done;
    }
