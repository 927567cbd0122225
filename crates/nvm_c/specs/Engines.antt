-- What an engine is: a port of a space, and the job that is pending in it.
use Rattle.std.specs.Prelude.{ℕ, ◌<◌, List, Option, MatchOption}
use Rattle.std.specs.Arc.{arc_value}
use Rattle.nvm_geometry.specs.Namespace.{Namespace}
use Rattle.nvm_plan.specs.Fits.{FitsNamespace}
use Rattle.nvm_unit.specs.Ends.{views_of}
use Rattle.nvm_unit.specs.declared.views.PassView.{PassView}
use Rattle.nvm_space.specs.Ports.{PortState, IsPortOf}
use Rattle.nvm_space.specs.Spaces.{SpaceName}
use Rattle.nvm_c.specs.Logs.{LogState, HasRoomIn, kept_by}
use Rattle.nvm_c.specs.Pending.{HasBegun, IsUnrecorded, pending_job}
use Rattle.nvm_c.specs.declared.engine.Engine.{Engine}
use Rattle.nvm_c.specs.declared.engine.Pending.{Pending}
use Rattle.nvm_c.specs.declared.log.Log.{Log}

-- the space that its port is of
abbrev pub space_of : Engine → SpaceName
space_of e = arc_value e.space

abbrev pub namespace_of : Engine → Namespace
namespace_of e = (space_of e).namespace

-- what an engine has of the space, its port, the number of its next job where nothing is recorded, the job that is pending, and what
-- is kept of those that were done
pub record EngineState : Type 0 where
  pub space : SpaceName
  pub port : PortState
  pub number : ℕ
  pub pending : Option Pending
  pub log : Option LogState

abbrev pub state_of : Engine → EngineState
state_of e = record { space = space_of e; port = e.port; number = e.number; pending = e.pending; log = kept_by e.log }

-- what its port has seen and done, unit by unit
abbrev pub seen_by : Engine → List PassView
seen_by e = views_of e.port.passes

-- The job fits the namespace, and has begun at some earlier state of the port. There is room to keep it.
pub record CanGoOn (s : SpaceName) (p : Pending) (now : List PassView) (log : Option Log) : Type 0 where
  pub fits : FitsNamespace s.namespace (pending_job p)
  pub room : HasRoomIn log
  pub unrecorded : IsUnrecorded p (kept_by log)
  pub begun : (start : List PassView) × HasBegun s p start now

-- Its port is of its space, and one of 64. A job that is pending can be gone on with.
pub record IsSound (e : Engine) : Type 0 where
  pub of : IsPortOf (space_of e) e.port
  pub few : e.port.number < 64
  pub pending : MatchOption e.pending (Unit {0}) (λ p. CanGoOn (space_of e) p (seen_by e) e.log)
