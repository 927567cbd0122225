-- How far a job is that is done without waiting (own).
use Rattle.std.specs.Prelude.{◌≡◌, ℕ, Bool, List}
use Rattle.nvm_geometry.specs.Namespace.{Namespace}
use Rattle.nvm_plan.specs.declared.job.Job.{Job}
use Rattle.nvm_unit.specs.declared.views.PassView.{PassView}
use Rattle.nvm_space.specs.Trace.{DoesJob}
use Rattle.nvm_space.specs.UnderWay.{IsUnderWay}
use Rattle.nvm_space.specs.declared.under_way.Progress.{Progress}
use Rattle.nvm_space.specs.declared.under_way.Progress.TheVariants.{Done, Pending}

-- Since `start` the port did the job of this number, or is under way with it.
abbrev pub IsProgress : Namespace → Bool → ℕ → Job → List PassView → List PassView → Progress → Type 0
IsProgress ns lists number job start now (Done done) = DoesJob ns lists number job start now done
IsProgress ns lists number job start now (Pending w) = (w.number ≡ number) × IsUnderWay ns lists job w start now
