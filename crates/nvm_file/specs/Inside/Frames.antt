-- What the front of a file says of all that follows, where it was read (own).
use Rattle.std.specs.Prelude.{◌≤◌}
use Rattle.nvm_geometry.specs.Faults.{IsValid}
use Rattle.nvm_audit.specs.Recordable.{HoldsLimit, most_jobs, most_workers}
use Rattle.nvm_file.specs.declared.frame.Frame.{Frame}

-- The numbers are in their ranges.
pub record IsSoundFrame (frame : Frame) : Type 0 where
  pub namespace : IsValid frame.geometry
  pub limit : HoldsLimit frame.version frame.limit
  pub some_worker : 1 ≤ frame.workers
  pub few_workers : frame.workers ≤ most_workers
  pub few_jobs : frame.jobs ≤ most_jobs
