-- What contracts see of a port: a pass of each unit, all of one number (own).
use Rattle.std.specs.Prelude.{◌≡◌, ℕ, List, length, map}
use Rattle.std.specs.List.{range_with_len}
use Rattle.nvm_record.specs.Lists.{IsAt}
use Rattle.nvm_unit.specs.Ends.{pass_at}
use Rattle.nvm_unit.specs.Passes.{UnitName, PassState, IsPassOf}
use Rattle.nvm_unit.specs.Views.{newcomer}
use Rattle.nvm_space.specs.Spaces.{SpaceName}

-- its number, and its passes in the order of the units
pub record PortState : Type 0 where
  pub number : ℕ
  pub passes : List PassState

-- There is a pass of each unit, at the place of the unit, and each pass has this number.
pub record ArePassesOfAll (units : List UnitName) (n : ℕ) (passes : List PassState) : Type 0 where
  pub count : length passes ≡ length units
  pub each : (k : ℕ) (unit : UnitName) (pass : PassState) → IsAt units k unit → IsAt passes k pass
      → IsPassOf unit pass × (pass.view.number ≡ n)

-- The port has a pass of each of the space's units, of its own number.
abbrev pub IsPortOf : SpaceName → PortState → Type 0
IsPortOf s port = ArePassesOfAll s.units port.number port.passes

-- These are the space's ports, all of them, each at the place of its number.
pub record AreAllPortsOf (s : SpaceName) (ports : List PortState) : Type 0 where
  pub count : length ports ≡ s.ports
  pub each : (w : ℕ) (port : PortState) → IsAt ports w port → IsPortOf s port × (port.number ≡ w)

-- the new unit's pass of this number, which has seen and done nothing
abbrev pub new_pass : ℕ → UnitName → PassState
new_pass number unit = pass_at unit.table unit.versions (newcomer unit.bounds number)

-- the port of this number of new units
abbrev pub new_port : List UnitName → ℕ → PortState
new_port units number = record { number = number; passes = map (new_pass number) units }

-- the ports of a new space
abbrev pub new_ports : SpaceName → List PortState
new_ports s = map (new_port s.units) (range_with_len 0 s.ports)
