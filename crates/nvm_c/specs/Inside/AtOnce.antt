-- What C is told of a job's only part.
use Rattle.std.specs.Prelude.{◌≡◌, ℕ, Bool, true, false, List, unwrap_or}
use Rattle.nvm_plan.specs.Completions.{data_in}
use Rattle.nvm_plan.specs.declared.job.Job.{Job}
use Rattle.nvm_unit.specs.declared.views.PassView.{PassView}
use Rattle.nvm_space.specs.Spaces.{SpaceName}
use Rattle.nvm_space.specs.Trace.{DoesJob}
use Rattle.nvm_space.specs.UnderWay.{MayHaveWaited}
use Rattle.nvm_space.specs.declared.job_done.JobDone.{JobDone}
use Rattle.nvm_c.specs.Submitted.{Buffers}
use Rattle.nvm_c.specs.Told.{all_posted}

-- Since `start` the job was done, and C was told of it: what it read took the room's place. Or its region wasn't to be had.
abbrev pub IsToldAtOnce : Bool → SpaceName → ℕ → Job → ℕ → List PassView → List PassView → Buffers → Buffers → Type 0
IsToldAtOnce true s number job region start now old new =
    (told : JobDone) × DoesJob s.namespace s.lists number job start now told × (new.posted ≡ all_posted told.completions)
    × (new.bytes ≡ unwrap_or (data_in told.completions) old.bytes)
IsToldAtOnce false s number job region start now old new = MayHaveWaited region start now × (new ≡ old)
