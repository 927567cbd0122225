-- Passes that are handed out to ports, and gathered from them: unit by unit, a pass for each port.
use Rattle.std.specs.Prelude.{◌≡◌, ℕ, ◌<◌, ◌≤◌, Bool, Option, is_some, List, [], ◌∷◌, ◌++◌, length}
use Rattle.nvm_record.specs.Lists.{IsAt}
use Rattle.nvm_geometry.specs.Namespace.{Namespace}
use Rattle.nvm_unit.specs.Passes.{UnitName, PassState}
use Rattle.nvm_space.specs.Ports.{PortState, new_port}
use Rattle.nvm_space.specs.Spaces.{SpaceName, most_entries}

-- the space of these units
abbrev pub space_of : Namespace → ℕ → Option ℕ → Bool → List UnitName → SpaceName
space_of ns ports limit versions units =
    record { namespace = ns; ports = ports; limit = most_entries limit; lists = is_some limit; versions = versions; units = units }

-- the port with this pass after those that it has
abbrev pub with_one_more : PortState → PassState → PortState
with_one_more port pass = record { number = port.number; passes = port.passes ++ pass ∷ [] }

-- `n` ports have the new passes of these units.
pub record AreDealt (n : ℕ) (units : List UnitName) (ports : List PortState) : Type 0 where
  pub count : length ports ≡ n
  pub each : (w : ℕ) (port : PortState) → IsAt ports w port → port ≡ new_port units w

-- Of the ports, those below place n have one pass more: of these, the one at their place.
pub record HaveOneMoreBelow (n : ℕ) (passes : List PassState) (fewer more : List PortState) : Type 0 where
  pub count : length more ≡ length fewer
  pub each : (w : ℕ) (port : PortState) (pass : PassState) (with_it : PortState) → w < n → IsAt fewer w port
      → IsAt passes w pass → IsAt more w with_it → with_it ≡ with_one_more port pass
  pub others : (w : ℕ) (port with_it : PortState) → n ≤ w → IsAt fewer w port → IsAt more w with_it → with_it ≡ port

-- Each of the ports has one pass more: of these, the one at its place.
pub record HaveOneMore (passes : List PassState) (fewer more : List PortState) : Type 0 where
  pub passes_count : length passes ≡ length fewer
  pub count : length more ≡ length fewer
  pub each : (w : ℕ) (port : PortState) (pass : PassState) (with_it : PortState) → IsAt fewer w port
      → IsAt passes w pass → IsAt more w with_it → with_it ≡ with_one_more port pass
