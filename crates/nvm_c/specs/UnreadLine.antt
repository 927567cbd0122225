-- What is told of bytes that are no record's file: the first fault from the front, as `nvmu` tells it behind its name.
use Rattle.std.specs.Prelude.{List, ℕ, [], ◌++◌, codes, decimal}
use Rattle.nvm_file.specs.declared.record_fault.RecordFault.{RecordFault}
use Rattle.nvm_file.specs.declared.record_fault.RecordFault.TheVariants.{BadName, Version, Truncated, Trailing, BadValue, NoMemory}

-- The fault in words. Want of memory is no fault of the bytes, and has none.
abbrev pub unread_text : RecordFault → List ℕ
unread_text BadName = codes "bad name"
unread_text Version = codes "unknown version"
unread_text (Truncated at) = codes "truncated at " ++ decimal at
unread_text (Trailing at) = codes "trailing at " ++ decimal at
unread_text (BadValue at) = codes "bad value at " ++ decimal at
unread_text NoMemory = []

-- the line of a fault
abbrev pub unread_line : RecordFault → List ℕ
unread_line fault = codes "record: " ++ (unread_text fault ++ codes "\n")
