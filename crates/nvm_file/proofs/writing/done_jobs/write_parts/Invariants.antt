use Rattle.std.proofs.Common.{All, take}
use Rattle.std.specs.Io.KnownBytes.{Appends}
use Rattle.std.specs.List.{flat_map}
use Rattle.nvm_file.specs.Fits.{PartFits}
use Rattle.nvm_file.specs.WorkSpelling.{part_bytes}
use Rattle.nvm_file.proofs.writing.done_jobs.write_parts.Given as goal

abbrev pub invariant-loop-part : goal.invariant-loop-part
invariant-loop-part g l =
    record {
      written : Appends (g.W.Write.contents l.fn.writer) (g.W.Write.contents l.writer) (flat_map part_bytes (take l.part-index l.parts));
      fit : All PartFits (take l.part-index l.parts);
    }
