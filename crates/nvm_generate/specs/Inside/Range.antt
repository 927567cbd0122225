-- The blocks that a command of a load may be on.
use Rattle.std.specs.Prelude.{ℕ, ◌+◌, ◌≤◌}
use Rattle.nvm_geometry.specs.Namespace.{Namespace}
use Rattle.nvm_generate.specs.Blocks.{AreFew}

-- The range lies in the namespace, and has few blocks.
pub record IsRangeOf (ns : Namespace) (first nlb : ℕ) : Type 0 where
  pub inside : first + (nlb + 1) ≤ ns.nsze
  pub few : AreFew ns (nlb + 1)
