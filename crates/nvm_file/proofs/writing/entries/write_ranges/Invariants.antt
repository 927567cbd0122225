use Rattle.std.proofs.Common.{◌++◌, take}
use Rattle.std.specs.Io.KnownBytes.{Appends}
use Rattle.std.specs.List.{flat_map}
use Rattle.byteorder.specs.Endian.{little_bytes}
use Rattle.nvm_record.specs.Ranges.{range_count, ranges_of}
use Rattle.nvm_file.specs.EntrySpelling.{cut_bytes}
use Rattle.nvm_file.proofs.writing.entries.write_ranges.Given as goal

abbrev pub invariant-loop-place : goal.invariant-loop-place
invariant-loop-place g l =
    Appends (g.W.Write.contents l.fn.writer) (g.W.Write.contents l.writer)
    (little_bytes 2 (range_count l.payload) ++ flat_map cut_bytes (take l.place (ranges_of l.payload)))
