use Rattle.std.proofs.Common.{◌++◌, All, length, take}
use Rattle.std.specs.Io.KnownBytes.{Appends}
use Rattle.std.specs.List.{flat_map}
use Rattle.byteorder.specs.Endian.{little_bytes}
use Rattle.nvm_file.specs.Fits.{DoneFits}
use Rattle.nvm_file.specs.WorkSpelling.{done_bytes}
use Rattle.nvm_file.proofs.writing.done_jobs.write_work.Given as goal

abbrev pub invariant-loop-done : goal.invariant-loop-done
invariant-loop-done g l =
    record {
      written : Appends (g.W.Write.contents l.fn.writer) (g.W.Write.contents l.writer)
          (little_bytes 4 (length l.work) ++ flat_map done_bytes (take l.done-index l.work));
      fit : All DoneFits (take l.done-index l.work);
    }
