-- A job that is pending in a port, and how far it is.
use Rattle.std.specs.Prelude.{◌≡◌, ℕ, false, List, Option, None}
use Rattle.nvm_plan.specs.OnlyPart.{body_lent}
use Rattle.nvm_plan.specs.declared.job.Job.{Job}
use Rattle.nvm_unit.specs.declared.views.PassView.{PassView}
use Rattle.nvm_space.specs.AtOnce.{IsWaiting}
use Rattle.nvm_space.specs.Spaces.{SpaceName}
use Rattle.nvm_space.specs.UnderWay.{IsUnderWay}
use Rattle.nvm_c.specs.Logs.{LogState}
use Rattle.nvm_c.specs.declared.engine.Pending.{Pending}
use Rattle.nvm_c.specs.declared.engine.Pending.TheVariants.{UnderWay, Waiting}
use Rattle.nvm_c.specs.declared.waiting.WaitingJob.{WaitingJob}

-- the job of these fields and this data
abbrev pub waiting_job : WaitingJob → Job
waiting_job w = record { host = w.host; body = body_lent w.fields w.data.payload.items w.data.compared.items }

abbrev pub pending_number : Pending → ℕ
pending_number (UnderWay number job under_way) = number
pending_number (Waiting w) = w.number

abbrev pub pending_job : Pending → Job
pending_job (UnderWay number job under_way) = job
pending_job (Waiting w) = waiting_job w

-- how far the job is that began at `start`
abbrev pub HasBegun : SpaceName → Pending → List PassView → List PassView → Type 0
HasBegun s (UnderWay number job under_way) start now = (under_way.number ≡ number) × IsUnderWay s.namespace s.lists job under_way start now
HasBegun s (Waiting w) start now = (s.lists ≡ false) × IsWaiting s.namespace (waiting_job w) start now

-- A job that waits isn't recorded.
abbrev pub IsUnrecorded : Pending → Option LogState → Type 0
IsUnrecorded (UnderWay number job under_way) log = Unit {0}
IsUnrecorded (Waiting w) log = log ≡ None
