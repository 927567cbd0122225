use Rattle.std.proofs.Common.{◌++◌, length, take}
use Rattle.std.specs.Io.KnownBytes.{Appends}
use Rattle.std.specs.List.{flat_map}
use Rattle.byteorder.specs.Endian.{little_bytes}
use Rattle.nvm_file.specs.EntrySpelling.{entry_bytes}
use Rattle.nvm_file.proofs.writing.entries.write_history.Given as goal

abbrev pub invariant-loop-entry : goal.invariant-loop-entry
invariant-loop-entry g l =
    Appends (g.W.Write.contents l.fn.writer) (g.W.Write.contents l.writer)
    (little_bytes 4 (length l.history) ++ flat_map entry_bytes (take l.entry-index l.history))
