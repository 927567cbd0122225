-- What became of a job that was to be done at once (own).
use Rattle.std.specs.Prelude.{◌≡◌, ℕ, ◌<◌, false, List, [], Option, Some, None, unwrap_or}
use Rattle.nvm_record.specs.Step.{Operation}
use Rattle.nvm_record.specs.declared.status.Statuses.{Statuses}
use Rattle.nvm_geometry.specs.Boundaries.{unit_number}
use Rattle.nvm_geometry.specs.Large.{region_of}
use Rattle.nvm_geometry.specs.Namespace.{Namespace}
use Rattle.nvm_plan.specs.Completions.{completions_of, data_in}
use Rattle.nvm_plan.specs.OnlyPart.{IsOnlyPart}
use Rattle.nvm_plan.specs.Shape.{IsForEach}
use Rattle.nvm_plan.specs.declared.job.Job.{Job}
use Rattle.nvm_unit.specs.declared.views.PassView.{PassView}
use Rattle.nvm_space.specs.Trace.{DoesJob}
use Rattle.nvm_space.specs.UnderWay.{MayHaveWaited}
use Rattle.nvm_space.specs.declared.job_done.JobDone.{JobDone}

-- The part is the job's only one, and lies in the region; it is that of its first LBA's unit.
pub record IsOnlyPartAt (ns : Namespace) (job : Job) (region : ℕ) (part : Operation) : Type 0 where
  pub only : IsOnlyPart ns job (unit_number ns part.first) part
  pub known : part.first < ns.nsze
  pub here : region ≡ region_of ns (unit_number ns part.first)

-- Since `start` the job of this number was done, and reported with these statuses and with this data, if it is a Read's. That took the
-- buffer's place. No part is listed.
pub record IsDoneAtOnce (ns : Namespace) (number : ℕ) (job : Job) (start now : List PassView) (old new : List ℕ) (statuses : Statuses) : Type 0 where
  pub each : IsForEach job.body statuses
  pub read : Option (List ℕ)
  pub buffer : new ≡ unwrap_or (data_in (completions_of job statuses read)) old
  pub does : (done : JobDone) → done.completions ≡ completions_of job statuses read → done.parts.items ≡ [] → DoesJob ns false number job start now done

-- It was done; or the port found that it couldn't have the region of its only part.
abbrev pub IsAtOnce : Namespace → ℕ → Job → ℕ → List PassView → List PassView → List ℕ → List ℕ → Option Statuses → Type 0
IsAtOnce ns number job region start now old new (Some statuses) = IsDoneAtOnce ns number job start now old new statuses
IsAtOnce ns number job region start now old new None = (new ≡ old) × MayHaveWaited region start now

-- No check refuses the job, and it has one part. Since `start` the port did nothing but find, perhaps, that it couldn't have its region.
pub record IsWaiting (ns : Namespace) (job : Job) (start now : List PassView) : Type 0 where
  pub region : ℕ
  pub part : Operation
  pub only : IsOnlyPartAt ns job region part
  pub waited : MayHaveWaited region start now
