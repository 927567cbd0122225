-- What the front of a trace's file says of all that follows, where it was read (own).
use Rattle.std.specs.Prelude.{◌≡◌, ◌≤◌}
use Rattle.nvm_geometry.specs.Faults.{IsValid}
use Rattle.nvm_audit.specs.declared.version.Version.TheVariants.{Two}
use Rattle.nvm_audit.specs.Recordable.{most_jobs}
use Rattle.nvm_file.specs.declared.trace_frame.TraceFrame.{TraceFrame}

-- The numbers are in their ranges.
pub record IsSoundTraceFrame (head : TraceFrame) : Type 0 where
  pub namespace : IsValid head.scope.geometry
  pub version : head.scope.version ≡ Two
  pub few_jobs : head.jobs ≤ most_jobs
