-- Why a submission is refused before anything is done.
use Rattle.nvm_c.specs.declared.code.Code.{Code}
use Rattle.nvm_c.specs.declared.code.Code.TheVariants.{Done, Pending, NotOpen, IsOpen, NoMemory, BadNamespace, BadPorts, BadLimit, BadLength, NoPair, Busy, Idle, Newer, OutOfRange, Crosses, NoVersions}

-- The code is one of a refusal.
abbrev pub IsRefusal : Code → Type 0
IsRefusal Done = ⊥
IsRefusal Pending = ⊥
IsRefusal NotOpen = ⊥
IsRefusal IsOpen = ⊥
IsRefusal NoMemory = Unit {0}
IsRefusal BadNamespace = ⊥
IsRefusal BadPorts = ⊥
IsRefusal BadLimit = ⊥
IsRefusal BadLength = Unit {0}
IsRefusal NoPair = Unit {0}
IsRefusal Busy = ⊥
IsRefusal Idle = ⊥
IsRefusal Newer = ⊥
IsRefusal OutOfRange = ⊥
IsRefusal Crosses = ⊥
IsRefusal NoVersions = ⊥
