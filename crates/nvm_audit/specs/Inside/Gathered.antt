-- The parts that name a unit, gathered from what the workers did.
use Rattle.std.specs.Prelude.{ℕ, nat_eq, List, filter}
use Rattle.nvm_audit.specs.RecordedPart.{RecordedPart}

-- those of these parts that name the unit
abbrev pub naming : ℕ → List RecordedPart → List RecordedPart
naming unit parts = filter (λ p. nat_eq p.part.unit unit) parts
