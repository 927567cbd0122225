-- A job that was done by the one port of a new space, and what that left (own).
use Rattle.std.specs.Prelude.{◌≡◌, ℕ, true, List, [], ◌∷◌}
use Rattle.nvm_record.specs.Lists.{IsAt}
use Rattle.nvm_geometry.specs.Namespace.{Namespace}
use Rattle.nvm_plan.specs.declared.job.Job.{Job}
use Rattle.nvm_store.specs.HistoryEntry.{HistoryEntry}
use Rattle.nvm_unit.specs.Ends.{views_of}
use Rattle.nvm_unit.specs.Passes.{UnitName}
use Rattle.nvm_space.specs.Closing.{EndsWhole}
use Rattle.nvm_space.specs.Ports.{PortState, new_port}
use Rattle.nvm_space.specs.Spaces.{SpaceName}
use Rattle.nvm_space.specs.Trace.{DoesJob}
use Rattle.nvm_space.specs.declared.job_done.JobDone.{JobDone}

pub record IsJobAlone (ns : Namespace) (job : Job) (done : JobDone) (histories : List (List HistoryEntry)) : Type 0 where
  pub space : SpaceName
  pub namespace : space.namespace ≡ ns
  -- the port, as it ends
  pub port : PortState
  -- From when it was new, the port did this job and no other.
  pub does : DoesJob ns true 0 job (views_of (new_port space.units 0).passes) (views_of port.passes) done
  -- Each unit ended with its history, of which the port's pass made all entries.
  pub ends : (k : ℕ) (unit : UnitName) (history : List HistoryEntry) → IsAt space.units k unit → IsAt histories k history
      → EndsWhole k unit (port ∷ []) history
