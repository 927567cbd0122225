-- Why a line isn't in its room.
use Rattle.std.specs.Prelude.{◌≡◌, ℕ, List}
use Rattle.nvm_c.specs.LineRoom.{IsTooLong}
use Rattle.nvm_c.specs.declared.line.LineFault.{LineFault}
use Rattle.nvm_c.specs.declared.line.LineFault.TheVariants.{NoMemory, ShortRoom}

-- It is too long, or memory was refused. Nothing is written then.
abbrev pub IsNotInRoom : LineFault → List ℕ → List ℕ → List ℕ → Type 0
IsNotInRoom NoMemory line old new = new ≡ old
IsNotInRoom ShortRoom line old new = IsTooLong line old new
