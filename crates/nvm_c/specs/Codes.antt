-- The numbers by which C knows the codes.
use Rattle.std.specs.Prelude.{ℤ, pos}
use Rattle.nvm_c.specs.declared.code.Code.{Code}
use Rattle.nvm_c.specs.declared.code.Code.TheVariants.{Done, Pending, NotOpen, IsOpen, NoMemory, BadNamespace, BadPorts, BadLimit, BadLength, NoPair, Busy, Idle, Newer, OutOfRange, Crosses, NoVersions}

abbrev pub number_of : Code → ℤ
number_of Done = pos 0
number_of Pending = pos 1
number_of NotOpen = pos 2
number_of IsOpen = pos 3
number_of NoMemory = pos 4
number_of BadNamespace = pos 5
number_of BadPorts = pos 6
number_of BadLimit = pos 7
number_of BadLength = pos 8
number_of NoPair = pos 9
number_of Busy = pos 10
number_of Idle = pos 11
number_of Newer = pos 12
number_of OutOfRange = pos 13
number_of Crosses = pos 14
number_of NoVersions = pos 15
