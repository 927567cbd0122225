-- The numbers by which C knows what is answered where a record is asked for. Those below 19 are the numbers of other calls, too.
use Rattle.std.specs.Prelude.{ℤ, pos}
use Rattle.nvm_c.specs.declared.record_code.RecordCode.{RecordCode}
use Rattle.nvm_c.specs.declared.record_code.RecordCode.TheVariants.{Done, NotOpen, NoMemory, Busy, Unlawful, ShortRoom, OtherPorts, NoRecord, RecordFull}

abbrev pub record_number : RecordCode → ℤ
record_number Done = pos 0
record_number NotOpen = pos 2
record_number NoMemory = pos 4
record_number Busy = pos 10
record_number Unlawful = pos 16
record_number ShortRoom = pos 18
record_number OtherPorts = pos 19
record_number NoRecord = pos 20
record_number RecordFull = pos 21
