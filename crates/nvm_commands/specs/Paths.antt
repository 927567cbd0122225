-- A fault of the file at one of several paths.
use Rattle.std.specs.Prelude.{ℕ, List}
use Rattle.std.specs.List.{Contains}
use Rattle.nvm_commands.specs.declared.fault.Fault.{Fault}

-- One of the paths has such a fault.
abbrev pub IsOfOne : (List ℕ → Fault → Type 0) → List (List ℕ) → Fault → Type 0
IsOfOne Is paths fault = (path : List ℕ) × Contains paths path × Is path fault
