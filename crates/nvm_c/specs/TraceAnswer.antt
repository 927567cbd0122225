-- What is answered where a trace is judged: a code, and the line that goes with it, in the room that C has for it.
use Rattle.std.specs.Prelude.{◌≡◌, ◌⊎◌, ℕ, Bool, if◌then◌else◌, List}
use Rattle.nvm_trace.specs.declared.judging.Judging.{Judging}
use Rattle.nvm_trace.specs.declared.judging.Judging.TheVariants.{Standard, Strict}
use Rattle.nvm_c.specs.LineRoom.{IsInRoom, IsTooLong}
use Rattle.nvm_c.specs.declared.trace_code.TraceCode.{TraceCode}
use Rattle.nvm_c.specs.declared.trace_code.TraceCode.TheVariants.{NoMemory, ShortRoom}

-- what the device is held to
abbrev pub judging_of : Bool → Judging
judging_of strict = if strict then Strict else Standard

-- The line is in its room, and the code is its own; or the line is too long, or memory was refused, and nothing is written.
abbrev pub IsPut : TraceCode → List ℕ → TraceCode → List ℕ → List ℕ → Type 0
IsPut its line code old new =
    ((code ≡ its) × IsInRoom line old new) ⊎ (((code ≡ ShortRoom) × IsTooLong line old new) ⊎ ((code ≡ NoMemory) × (new ≡ old)))

-- What is found, a code with its line, is put into the room; or memory was refused before.
abbrev pub IsAnswer : (TraceCode → List ℕ → Type 0) → TraceCode → List ℕ → List ℕ → Type 0
IsAnswer Found code old new =
    ((its : TraceCode) × (line : List ℕ) × Found its line × IsPut its line code old new) ⊎ ((code ≡ NoMemory) × (new ≡ old))
