-- What a submission does to an engine, and what a poll does.
use Rattle.std.specs.Prelude.{◌≡◌, ℕ, ◌+◌, List, Option, Some, None}
use Rattle.nvm_plan.specs.declared.job.Job.{Job}
use Rattle.nvm_unit.specs.declared.views.PassView.{PassView}
use Rattle.nvm_space.specs.Spaces.{SpaceName}
use Rattle.nvm_space.specs.Trace.{DoesJob}
use Rattle.nvm_space.specs.declared.job_done.JobDone.{JobDone}
use Rattle.nvm_c.specs.Asked.{IsAsked}
use Rattle.nvm_c.specs.Engines.{space_of, namespace_of, seen_by, state_of}
use Rattle.nvm_c.specs.Logs.{LogState, HasDrawn, kept_by, with_kept}
use Rattle.nvm_c.specs.Pending.{HasBegun, pending_job, pending_number}
use Rattle.nvm_c.specs.Told.{AreTold}
use Rattle.nvm_c.specs.declared.code.Code.{Code}
use Rattle.nvm_c.specs.declared.code.Code.TheVariants.{Done, Pending, NotOpen, IsOpen, NoMemory, BadNamespace, BadPorts, BadLimit, BadLength, NoPair, Busy, Idle, Newer, OutOfRange, Crosses, NoVersions}
use Rattle.nvm_c.specs.declared.engine.Engine.{Engine}
use Rattle.nvm_c.specs.declared.engine.Pending.{Pending as PendingJob}

-- the two buffers that a call may write: the data and the completions
pub record Buffers : Type 0 where
  pub bytes : List ℕ
  pub posted : List ℕ

-- The job that began at `start` was done, C was told of it, and it is kept where it is recorded.
pub record IsDone (s : SpaceName) (number : ℕ) (job : Job) (start now : List PassView) (pending : Option PendingJob)
    (log log' : Option LogState) (old new : Buffers) : Type 0 where
  pub told : JobDone
  pub does : DoesJob s.namespace s.lists number job start now told
  pub buffers : AreTold told.completions old.bytes new.bytes old.posted new.posted
  pub idle : pending ≡ None
  pub kept : log' ≡ with_kept log number job told

-- The job that began at `start` is pending, and C was told nothing.
pub record IsPending (s : SpaceName) (number : ℕ) (job : Job) (start now : List PassView) (pending : Option PendingJob)
    (log log' : Option LogState) (old new : Buffers) : Type 0 where
  pub held : PendingJob
  pub kept : pending ≡ Some held
  pub numbered : pending_number held ≡ number
  pub of : pending_job held ≡ job
  pub goes : HasBegun s held start now
  pub log_kept : log' ≡ log
  pub buffers : new ≡ old

-- how far the job is that began at `start`, by the code
abbrev pub Progresses : Code → SpaceName → ℕ → Job → List PassView → List PassView → Option PendingJob → Option LogState → Option LogState
    → Buffers → Buffers → Type 0
Progresses Done s number job start now pending log log' old new = IsDone s number job start now pending log log' old new
Progresses Pending s number job start now pending log log' old new = IsPending s number job start now pending log log' old new
Progresses NotOpen s number job start now pending log log' old new = ⊥
Progresses IsOpen s number job start now pending log log' old new = ⊥
Progresses NoMemory s number job start now pending log log' old new = ⊥
Progresses BadNamespace s number job start now pending log log' old new = ⊥
Progresses BadPorts s number job start now pending log log' old new = ⊥
Progresses BadLimit s number job start now pending log log' old new = ⊥
Progresses BadLength s number job start now pending log log' old new = ⊥
Progresses NoPair s number job start now pending log log' old new = ⊥
Progresses Busy s number job start now pending log log' old new = ⊥
Progresses Idle s number job start now pending log log' old new = ⊥
Progresses Newer s number job start now pending log log' old new = ⊥
Progresses OutOfRange s number job start now pending log log' old new = ⊥
Progresses Crosses s number job start now pending log log' old new = ⊥
Progresses NoVersions s number job start now pending log log' old new = ⊥

-- A job that the entries ask for was begun, under the number that was drawn for it, and gone on with.
pub record Begins (code : Code) (e e' : Engine) (entries : List ℕ) (old new : Buffers) : Type 0 where
  pub job : Job
  pub asked : IsAsked (namespace_of e).block_size (e.port.number + 1) entries old.bytes job
  pub number : ℕ
  pub log : Option LogState
  pub drawn : HasDrawn e.number e'.number (kept_by e.log) log number
  pub progress : Progresses code (space_of e) number job (seen_by e) (seen_by e') e'.pending log (kept_by e'.log) old new
  pub space : space_of e' ≡ space_of e

-- The pending job was gone on with, whatever state of the port it began at.
pub record GoesOn (code : Code) (e e' : Engine) (p : PendingJob) (old new : Buffers) : Type 0 where
  pub progress : (start : List PassView) → HasBegun (space_of e) p start (seen_by e)
      → Progresses code (space_of e) (pending_number p) (pending_job p) start (seen_by e') e'.pending (kept_by e.log) (kept_by e'.log) old new
  pub space : space_of e' ≡ space_of e
  pub number : e'.number ≡ e.number

-- Nothing was done, and nothing was written.
abbrev pub IsRefused : Engine → Engine → Buffers → Buffers → Type 0
IsRefused e e' old new = (state_of e' ≡ state_of e) × (new ≡ old)

-- what a submission does
abbrev pub Submits : Code → Engine → Engine → List ℕ → Buffers → Buffers → Type 0
Submits Done e e' entries old new = (e.pending ≡ None) × Begins Done e e' entries old new
Submits Pending e e' entries old new = (e.pending ≡ None) × Begins Pending e e' entries old new
Submits NotOpen e e' entries old new = ⊥
Submits IsOpen e e' entries old new = ⊥
Submits NoMemory e e' entries old new = IsRefused e e' old new
Submits BadNamespace e e' entries old new = ⊥
Submits BadPorts e e' entries old new = ⊥
Submits BadLimit e e' entries old new = ⊥
Submits BadLength e e' entries old new = IsRefused e e' old new
Submits NoPair e e' entries old new = IsRefused e e' old new
Submits Busy e e' entries old new = IsRefused e e' old new × ((p : PendingJob) × (e.pending ≡ Some p))
Submits Idle e e' entries old new = ⊥
Submits Newer e e' entries old new = ⊥
Submits OutOfRange e e' entries old new = ⊥
Submits Crosses e e' entries old new = ⊥
Submits NoVersions e e' entries old new = ⊥

-- what a poll does
abbrev pub Polls : Code → Engine → Engine → Buffers → Buffers → Type 0
Polls Done e e' old new = (p : PendingJob) × (e.pending ≡ Some p) × GoesOn Done e e' p old new
Polls Pending e e' old new = (p : PendingJob) × (e.pending ≡ Some p) × GoesOn Pending e e' p old new
Polls NotOpen e e' old new = ⊥
Polls IsOpen e e' old new = ⊥
Polls NoMemory e e' old new = ⊥
Polls BadNamespace e e' old new = ⊥
Polls BadPorts e e' old new = ⊥
Polls BadLimit e e' old new = ⊥
Polls BadLength e e' old new = IsRefused e e' old new
Polls NoPair e e' old new = ⊥
Polls Busy e e' old new = ⊥
Polls Idle e e' old new = IsRefused e e' old new × (e.pending ≡ None)
Polls Newer e e' old new = ⊥
Polls OutOfRange e e' old new = ⊥
Polls Crosses e e' old new = ⊥
Polls NoVersions e e' old new = ⊥
