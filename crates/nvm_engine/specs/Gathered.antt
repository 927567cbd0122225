-- A record that is gathered from what the workers did, each by a port of its own, and from the histories with which the units
-- of their space end (own).
use Rattle.std.specs.Prelude.{◌≡◌, ℕ, ◌<◌, List, All, length}
use Rattle.nvm_record.specs.Lists.{IsAt}
use Rattle.nvm_geometry.specs.Faults.{IsValid}
use Rattle.nvm_plan.specs.Fits.{FitsNamespace}
use Rattle.nvm_store.specs.HistoryEntry.{HistoryEntry}
use Rattle.nvm_store.specs.Limit.{IsLimit}
use Rattle.nvm_unit.specs.Ends.{views_of}
use Rattle.nvm_unit.specs.Passes.{UnitName}
use Rattle.nvm_space.specs.Closing.{EndsWhole}
use Rattle.nvm_space.specs.Ports.{PortState, AreAllPortsOf, new_port}
use Rattle.nvm_space.specs.Spaces.{SpaceName, IsLaidOut, IsPortCount}
use Rattle.nvm_audit.specs.LawfulRecord.{times_done}
use Rattle.nvm_audit.specs.RecordedJob.{RecordedJob}
use Rattle.nvm_audit.specs.RecordView.{RecordView}
use Rattle.nvm_engine.specs.DoneJobs.{HaveDone}

pub record IsGathered (s : SpaceName) (ports : List PortState) (r : RecordView) : Type 0 where
  -- The space is one that there can be, and the jobs fit its namespace.
  pub valid : IsValid s.namespace
  pub sound : IsLimit s.limit
  pub count : IsPortCount s.ports
  pub fit : All (FitsNamespace s.namespace) r.jobs
  pub namespace : r.namespace ≡ s.namespace
  pub limit : r.limit ≡ s.limit
  pub laid : IsLaidOut s
  pub all : AreAllPortsOf s ports
  -- Each job was done once.
  pub once : (number : ℕ) → number < length r.jobs → times_done number r.done ≡ 1
  -- Each worker did its jobs by the port of its number, from when the port was new.
  pub each_port : r.workers ≡ s.ports
  pub workers : length r.done ≡ s.ports
  pub done : (worker : ℕ) (work : List RecordedJob) (port : PortState) → IsAt r.done worker work → IsAt ports worker port
      → HaveDone s.namespace r.jobs work (views_of (new_port s.units worker).passes) (views_of port.passes)
  -- Each unit ended with its history.
  pub units : length r.units ≡ length s.units
  pub ends : (k : ℕ) (unit : UnitName) (history : List HistoryEntry) → IsAt s.units k unit → IsAt r.units k history
      → EndsWhole k unit ports history
