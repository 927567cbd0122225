-- How a space ends (own).
use Rattle.std.specs.Prelude.{◌≡◌, ℕ, List, length}
use Rattle.nvm_record.specs.Lists.{IsAt}
use Rattle.nvm_store.specs.HistoryEntry.{HistoryEntry}
use Rattle.nvm_unit.specs.Ends.{IsWholeHistory, HasCome, views_of}
use Rattle.nvm_unit.specs.Passes.{UnitName, PassState}
use Rattle.nvm_space.specs.Ports.{PortState}

-- These are the ports' passes of the unit k, in the order of the ports.
pub record ArePassesOf (k : ℕ) (ports : List PortState) (passes : List PassState) : Type 0 where
  pub count : length passes ≡ length ports
  pub each : (w : ℕ) (port : PortState) (pass : PassState) → IsAt ports w port → IsAt passes w pass
      → IsAt port.passes k pass

-- The unit k ends with this history, which is the whole one for the ports' passes of the unit.
pub record EndsWhole (k : ℕ) (unit : UnitName) (ports : List PortState) (history : List HistoryEntry) : Type 0 where
  pub passes : List PassState
  pub theirs : ArePassesOf k ports passes
  pub whole : IsWholeHistory unit.bounds (views_of passes) history
  pub events : HasCome unit.bounds (views_of passes) history
