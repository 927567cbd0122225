use Rattle.std.proofs.Common.{ℕ, ◌<◌, get_or}
use Rattle.nvm_geometry.specs.Boundaries.{units_of}
use Rattle.nvm_plan.specs.declared.part.Part.{Part}
use Rattle.nvm_c.proofs.gathering.lie_in_units.Given as goal

-- Each part so far is in a unit.
abbrev pub invariant-loop-part : goal.invariant-loop-part
invariant-loop-part l = (k : ℕ) (d : Part) → k < l.part-index → (get_or l.parts k d).unit < units_of l.geometry
